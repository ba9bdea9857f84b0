use Rattle.std.proofs.Common.{◌≡◌, ◌*◌, ◌≤◌, length}
use Rattle.tree_tokens.proofs.Writes.{Written}
use Rattle.file_read.specs.RingFile.{group_in}
use Rattle.file_read.proofs.Groups.{leaves_after}
use Rattle.file_read.proofs.group_of.Given as goal

abbrev pub invariant-loop-leaf : goal.invariant-loop-leaf
invariant-loop-leaf l = record {
  few : l.k ≤ l.leaf;
  room : length l.list ≡ length l.initial.list;
  names : l.names ≤ 256;
  bytes : length l.values ≡ 2 * l.names;
  written : Written (group_in l.file l.names l.head l.l) (leaves_after l.file l.names l.head l.l l.leaf) l.initial.list l.list l.k;
}

use mathlib.Core.Path.{◌≡◌, refl, ◌∙◌}
use mathlib.Core.List.{map}
use native.Mathlib.Omega.{arith}
use Rattle.spec_orders.specs.Lists.{elem}
use Rattle.spec_orders.specs.Tree.{Forest}
use Rattle.spec_orders.specs.Join.{joins}
use Rattle.spec_intersection.specs.Intersection.{characteristic}
use Rattle.tree_tokens.specs.Tokens.{plain, flat}
use Rattle.tree_tokens.proofs.Sequences.{tree_plain}
use Rattle.tree_tokens.proofs.Writes.{read_back}
use Rattle.tree_update.specs.Update.{impossible, written}
use Rattle.tree_update.proofs.Laws.{read_part}
use Rattle.tree_update.proofs.Updates.{form_tokens, tokens_short}
use Rattle.tree_intersection.specs.Intersect.{Growing, Grows}
use Rattle.tree_intersection.proofs.Growth.{growing_few, grows_tree, grows_none, growing_more, common}
use Rattle.tree_intersection.proofs.intersect.Goals as goal

pub copy-many-requires : goal.copy-many-requires
copy-many-requires c = omega (arith, tokens_short _ _ (form_tokens c.requires.0))

pub join_groups-requires : goal.join_groups-requires
join_groups-requires c =
    let start : Growing c.args.n c.copy-many.new.out c.copy-many.result = (let p = form_tokens c.requires.0 in
    record { long = omega (arith, c.copy-many.auto.out); tree = (p.0, read_back c.copy-many.ensures ∙ p.1, p.2, p.3) }) in
    ((_, c.requires.1.is), start)

pub returns-in_err-k : goal.returns-in_err-k
returns-in_err-k c =
    let joined : (t u : Forest) → c.args.toks.now ≡ flat t → c.args.other.now ≡ flat u
    → Grows (joins (map elem (characteristic u)) t) c.join_groups.new.into c.join_groups.result = (λ t u e q. rw tree_plain at (c.join_groups.ensures (plain u) t q (read_back c.copy-many.ensures ∙ e))) in
    λ t u e q. rw (c.from_residual.ensures, common t u ∙ grows_none c.in_err-k.was (joined t u e q)) (impossible refl)

pub slice_bounds-copy-end-2 : goal.slice_bounds-copy-end-2
slice_bounds-copy-end-2 c =
    let start : Growing c.args.n c.copy-many.new.out c.copy-many.result = (let p = form_tokens c.requires.0 in
    record { long = omega (arith, c.copy-many.auto.out); tree = (p.0, read_back c.copy-many.ensures ∙ p.1, p.2, p.3) }) in
    let joined : (t u : Forest) → c.args.toks.now ≡ flat t → c.args.other.now ≡ flat u
    → Grows (joins (map elem (characteristic u)) t) c.join_groups.new.into c.join_groups.result = (λ t u e q. rw tree_plain at (c.join_groups.ensures (plain u) t q (read_back c.copy-many.ensures ∙ e))) in
    let grew : Growing c.args.n c.join_groups.new.into c.in_ok-k.k = (growing_more (map elem (characteristic c.requires.1.shown)) c.requires.0.shown start (read_back c.copy-many.ensures ∙ c.requires.0.is) c.join_groups.auto.into c.in_ok-k.was
    (joined c.requires.0.shown c.requires.1.shown c.requires.0.is c.requires.1.is)) in
    let g = grew in omega (arith, growing_few g, g.long)

pub returns : goal.returns
returns c =
    let joined : (t u : Forest) → c.args.toks.now ≡ flat t → c.args.other.now ≡ flat u
    → Grows (joins (map elem (characteristic u)) t) c.join_groups.new.into c.join_groups.result = (λ t u e q. rw tree_plain at (c.join_groups.ensures (plain u) t q (read_back c.copy-many.ensures ∙ e))) in
    λ t u e q.
    let x = grows_tree c.in_ok-k.was (joined t u e q) in
    rw (common t u ∙ x.1) (written (rw (read_part x.2) at c.copy.ensures))

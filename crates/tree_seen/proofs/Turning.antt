use mathlib.Core.Option.{some}
-- One node of the path: the tokens of its items, and the node that one of them sees.
use mathlib.Core.Path.{◌≡◌, refl, sym, ap, subst, ◌∙◌}
use mathlib.Core.List.{List, ◌++◌}
use Prim.Native.Nat.{ℕ, ◌+◌, ◌-◌}
use native.Mathlib.Omega.{arith}
use lib.ListN.{length, take, drop, length-append}
use lib.Seq.{take_at, drop_at}
use Rattle.spec_orders.specs.Tree.{Kind, P, C, Forest, nil, node, Item, node_item, items, append}
use Rattle.spec_orders.specs.TreeText.{TwoItems}
use Rattle.spec_orders.specs.Reduce.{put, one, pack, put_sorted}
use Rattle.spec_orders.specs.SeenFrom.{place}
use Rattle.spec_orders.proofs.ListLaws.{part_to_end}
use Rattle.spec_orders.proofs.Laws.{items-append}
use Rattle.spec_orders.proofs.Parts.{put_one, items-put}
use Rattle.tree_tokens.specs.Tokens.{E, Judged, plain, tree, encode, flat}
use Rattle.tree_tokens.specs.declared.ItemShape.{ItemShape}
use Rattle.tree_tokens.specs.declared.ItemShape.TheVariants.{PNode, CNode}
use Rattle.tree_tokens.specs.Views.{shape_of, items_of, rest_of}
use Rattle.tree_tokens.proofs.Laws.{encode_node, shape_read}
use Rattle.tree_tokens.proofs.Sequences.{tree_plain}
use Rattle.tree_judge.specs.Total.{c_node_of}
use Rattle.tree_pieces.proofs.Laws.{flat_append, c_node-length, pack_many, put_sorted-items, put_sorted-length}
use Rattle.tree_laid.specs.declared.Laid.{Laid}
use Rattle.tree_laid.specs.Lying.{Lies}
use Rattle.tree_seen.specs.Seen.{NodeAt}
use Rattle.tree_seen.proofs.Items.{put-begins, three_long}

-- The node that the item between f and g sees, v being what the node itself sees.
abbrev pub turned : Kind → Item → Forest → Forest → Forest
turned k v f g = one (node_item k (place k v f g))

pub node_long : (k : Kind) (i : Forest) → length (flat (node k i nil)) ≡ 1 + length (flat i)
node_long k i = omega (arith, ap length (encode_node E k (plain i)))

pub c_turned : (v : Item) (f g : Forest) → c_node_of (append g (append (one v) f)) ≡ turned C v f g
unfolding c_node_of
c_turned v f g = ap (λ (i : Forest). c_node_of (append g i)) (put_one v f)

pub p_turned : (v y : Item) (f g : Forest) → TwoItems (items (append f (put y g))) → pack (put_sorted (one v) (append f g)) ≡ turned P v f g
p_turned v y f g h =
    pack_many (put_sorted (one v) (append f g)) (λ n. omega (
      arith,
      n,
      h,
      put_sorted-items (one v) (append f g),
      ap length (items-put v nil),
      ap length (items-append f g),
      length-append (items f) (items g),
      ap length (items-append f (put y g)),
      length-append (items f) (items (put y g)),
      ap length (items-put y g),
    ))

both_long : (f g : Forest) → length (flat (append f g)) ≡ length (flat f) + length (flat g)
both_long f g = ap length (flat_append f g) ∙ length-append (flat f) (flat g)

place_long : (k : Kind) (v : Item) (f g : Forest) → length (flat (turned k v f g)) ≡ 1 + (length (flat (one v)) + (length (flat f) + length (flat g)))
place_long P v f g = node_long P (put_sorted (one v) (append f g)) ∙ omega (arith, put_sorted-length (one v) (append f g), both_long f g)
place_long C v f g = ap (λ (i : Forest). length (flat i)) (sym (c_turned v f g)) ∙ c_node-length (append g (append (one v) f)) ∙ omega (arith, both_long g (append (one v) f), both_long (one v) f)

-- What the node sees and the node have as many tokens as the item and what it sees.
pub turned_long : (k : Kind) (v y : Item) (f g : Forest) → length (flat (turned k v f g)) + length (flat (one y)) ≡ length (flat (one v)) + length (flat (node k (append f (put y g)) nil))
turned_long k v y f g = omega (arith, place_long k v f g, node_long k (append f (put y g)), three_long f y g)

-- The tokens of its items, and of those before and behind y.
module _ {x w : List ℕ} {e : ℕ} {k : Kind} {f : Forest} {y : Item} {g : Forest} (n : NodeAt x e k f y g) (h : (j : Judged) → x ≡ encode j → w ≡ encode (items_of j)) where
  pub inner_tokens : w ≡ flat (append f (put y g))
  unfolding items_of
  inner_tokens = h (plain (node k (append f (put y g)) nil)) n.is

  parted : w ≡ flat f ++ flat (put y g)
  parted = inner_tokens ∙ flat_append f (put y g)

  pub front_tokens : take (e - 0) (drop 0 w) ≡ flat f
  front_tokens = let d : e - 0 ≡ length (flat f) = omega (arith, n.start) in ap (take (e - 0)) parted ∙ take_at (flat f) (flat (put y g)) (e - 0) (sym d)

  pub from_tokens : take (length w - e) (drop e w) ≡ flat (put y g)
  from_tokens = part_to_end w e ∙ ap (drop e) parted ∙ drop_at (flat f) (flat (put y g)) e (sym n.start)

  pub back_tokens : {b : List ℕ} → ((j : Judged) → take (length w - e) (drop e w) ≡ encode j → b ≡ encode (rest_of j)) → b ≡ flat g
  back_tokens r = r (plain (put y g)) from_tokens ∙ (put-begins y g).1

  pub x_long : length x ≡ 1 + (length (flat f) + (length (flat (one y)) + length (flat g)))
  x_long = ap length n.is ∙ node_long k (append f (put y g)) ∙ ap (λ (m : ℕ). 1 + m) (three_long f y g)

  pub w_long : length w ≡ length (flat f) + (length (flat (one y)) + length (flat g))
  w_long = ap length inner_tokens ∙ three_long f y g

-- The kind of the node by its shape.
module _ {x : List ℕ} {s : ItemShape} (i : Forest) (h : (j : Judged) → x ≡ encode j → some s ≡ shape_of j) where
  pub shape_c : (k : Kind) → x ≡ flat (node k i nil) → s ≡ CNode → k ≡ C
  unfolding shape_of
  shape_c C e q = refl
  shape_c P e q = let d : some PNode ≡ some CNode = sym (h (plain (node P i nil)) e) ∙ ap some q in cc

  pub shape_p : (k : Kind) → x ≡ flat (node k i nil) → (s ≡ CNode → ⊥) → k ≡ P
  unfolding shape_of
  shape_p P e q = refl
  shape_p C e q = absurd (q (shape_read (h (plain (node C i nil)) e) refl))

-- What lies then.
pub lies_c : {k : Kind} (v : Item) (f g : Forest) {buf : List ℕ} {u : Laid} → k ≡ C
    → Lies (c_node_of (append (tree (plain g)) (append (one v) (tree (plain f))))) buf u → Lies (turned k v f g) buf u
lies_c {k} v f g {buf} {u} e l =
    let q : c_node_of (append (tree (plain g)) (append (one v) (tree (plain f)))) ≡ turned k v f g = rw (tree_plain f, tree_plain g, e) (c_turned v f g) in
    subst (λ (t : Forest). Lies t buf u) q l

pub lies_p : {k : Kind} (v y : Item) (f g : Forest) {buf : List ℕ} {u : Laid} → k ≡ P → TwoItems (items (append f (put y g)))
    → Lies (pack (put_sorted (one v) (append (tree (plain f)) (tree (plain g))))) buf u → Lies (turned k v f g) buf u
lies_p {k} v y f g {buf} {u} e h l =
    let q : pack (put_sorted (one v) (append (tree (plain f)) (tree (plain g)))) ≡ turned k v f g = rw (tree_plain f, tree_plain g, e) (p_turned v y f g h) in
    subst (λ (t : Forest). Lies t buf u) q l

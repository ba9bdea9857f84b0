-- The walk: at the leaf, one step down to it, and the whole way.
use mathlib.Core.Path.{◌≡◌, refl, sym, ap, subst, ◌∙◌}
use mathlib.Core.List.{List, [], ◌∷◌}
use Prim.Native.Nat.{ℕ, suc, ◌+◌, ◌-◌, ◌*◌, ◌≤◌, ◌<◌}
use native.Mathlib.Omega.{arith}
use lib.ListN.{length, take, drop, set}
use Rattle.spec_orders.specs.Lists.{In}
use Rattle.spec_orders.specs.Tree.{Kind, Forest, nil, leaf, node, Item, leaf_item, node_item, items, append, frontier}
use Rattle.spec_orders.specs.TreeText.{Forked}
use Rattle.spec_orders.specs.Reduce.{put, one}
use Rattle.spec_orders.specs.SeenFrom.{place, sees, seen, seen_from}
use Rattle.spec_orders.proofs.Laws.{Fork, leaves_of}
use Rattle.spec_orders.proofs.Parts.{every-put, every_one, frontier-one}
use Rattle.spec_orders.proofs.Steps.{sees-step}
use Rattle.spec_orders.proofs.SeenFrom.{to_leaf, the_item, seen_one}
use Rattle.tree_tokens.specs.Tokens.{Judged, plain, E, leaf_token, node_token, encode, flat}
use Rattle.tree_tokens.specs.Views.{first_of, items_of}
use Rattle.tree_tokens.proofs.Laws.{encode_node}
use Rattle.tree_tokens.proofs.Sequences.{flat_injective}
use Rattle.tree_laid.specs.declared.Laid.{Laid}
use Rattle.tree_laid.specs.Lying.{StandsIn, Lies}
use Rattle.tree_laid.proofs.Laws.{around, around_head, holds}
use Rattle.tree_seen.specs.Seen.{index_of, Held, NodeAt, ItemTokens, HasLeaf}
use Rattle.tree_seen.proofs.Index.{index_miss, node_miss, index_leaf}
use Rattle.tree_seen.proofs.Items.{put-begins, found}
use Rattle.tree_seen.proofs.Turning.{turned_long, node_long, from_tokens, x_long}

node_index : (b : ℕ) (k : Kind) (i : Forest) {x : List ℕ} → x ≡ flat (node k i nil) → index_of b x ≡ suc (index_of b (flat i))
node_index b k i e = ap (index_of b) (e ∙ encode_node E k (plain i)) ∙ index_miss b (node_token E k (length (flat i))) (flat i) (node_miss b k (length (flat i)))

-- At index 0 the item is the leaf.
pub at_leaf : (y : Item) (b : ℕ) (v : Item) {x : List ℕ} {p : ℕ} → x ≡ flat (one y) → p ≡ index_of b x → p ≡ 0 → sees b v y ≡ v
at_leaf (leaf_item c) b v e q h = refl
at_leaf (node_item k i) b v e q h = absurd (omega (arith, node_index b k i e))

pub stays : (y : Item) (b : ℕ) (v : Item) {x buf : List ℕ} {p : ℕ} {t : Laid} → x ≡ flat (one y) → p ≡ index_of b x → p ≡ 0 → Lies (one v) buf t → Lies (one (sees b v y)) buf t
stays y b v {buf = buf} {t = t} e q h l = subst (λ (w : Item). Lies (one w) buf t) (sym (at_leaf y b v e q h)) l

forked_item : (f : Forest) (y : Item) (g : Forest) → Forked (append f (put y g)) → Forked (one y)
forked_item nil y g h = every_one Fork y (every-put Fork y g h).0
forked_item (leaf b f) y g h = forked_item f y g h
forked_item (node k i f) y g h = forked_item f y g h.1

-- An item with another index is a node.
pub record Inner (x : List ℕ) (y : Item) : Type 0 where
  pub kind : Kind
  pub its : Forest
  pub is : y ≡ node_item kind its
  pub text : x ≡ flat (node kind its nil)
  pub forks : Forked (node kind its nil)
  pub long : length x ≡ 1 + length (flat its)

pub inner_of : (y : Item) {x : List ℕ} {p : ℕ} → ItemTokens x y → p < length x → (p ≡ 0 → ⊥) → Inner x y
unfolding encode
inner_of (leaf_item b) e n m = absurd (omega (arith, ap length e.0))
inner_of (node_item k i) e n m = record { kind = k; its = i; is = refl; text = e.0; forks = e.1; long = ap length e.0 ∙ node_long k i }

pub its_tokens : {x w : List ℕ} {y : Item} (n : Inner x y) → ((j : Judged) → x ≡ encode j → w ≡ encode (items_of j)) → w ≡ flat n.its
unfolding items_of
its_tokens n h = h (plain (node n.kind n.its nil)) n.text

pub its_long : (y : Item) {x w : List ℕ} {p : ℕ} → ItemTokens x y → p < length x → (p ≡ 0 → ⊥) → ((j : Judged) → x ≡ encode j → w ≡ encode (items_of j)) → length x ≡ 1 + length w
its_long y t n m h = let i = inner_of y t n m in omega (arith, i.long, ap length (its_tokens i h))

-- One step down: the item of the node that holds the index.
pub record Step (x w : List ℕ) (p e : ℕ) (y : Item) : Type 0 where
  pub kind : Kind
  pub inner : Forest
  pub is : y ≡ node_item kind inner
  pub held : Held inner (p - 1) e
  pub node_at : NodeAt x e kind held.at.left held.at.item held.at.right
  pub forks : Forked (one held.at.item)
  pub text : x ≡ flat (node kind inner nil)

pub step : (y : Item) {x w : List ℕ} {p e : ℕ} → ItemTokens x y → p < length x → (p ≡ 0 → ⊥) → ((j : Judged) → x ≡ encode j → w ≡ encode (items_of j))
    → ((f : Forest) → w ≡ flat f → Held f (p - 1) e) → Step x w p e y
step y t n m h d =
    let i = inner_of y t n m in
    let a = d i.its (its_tokens i h) in
    let q = a.at.is in
    record {
      kind = i.kind;
      inner = i.its;
      is = i.is;
      held = a;
      node_at = record {
        is = i.text ∙ ap (λ (f : Forest). flat (node i.kind f nil)) q;
        start = a.at.start;
        two = subst (λ (f : Forest). 2 ≤ length (items f)) q i.forks.0.0;
      };
      forks = forked_item a.at.left a.at.item a.at.right (subst Forked q i.forks.0.1);
      text = i.text;
    }

-- What that item sees, v being what the node sees.
abbrev pub seen_behind : {x w : List ℕ} {p e : ℕ} {y : Item} → Step x w p e y → Item → Item
seen_behind s v = node_item s.kind (place s.kind v s.held.at.left s.held.at.right)

-- The tokens of that item, and the index in it.
module _ {x w : List ℕ} {p e : ℕ} {y : Item} (s : Step x w p e y) (h : (j : Judged) → x ≡ encode j → w ≡ encode (items_of j)) {z : List ℕ}
    (d : (j : Judged) → take (length w - e) (drop e w) ≡ encode j → z ≡ encode (first_of j)) where
  pub step_tokens : z ≡ flat (one s.held.at.item)
  step_tokens = d (plain (put s.held.at.item s.held.at.right)) (from_tokens s.node_at h) ∙ (put-begins s.held.at.item s.held.at.right).0

  pub step_inside : p - 1 - e < length z
  step_inside = omega (arith, s.held.inside, s.held.reached, s.held.at.stop, ap length step_tokens)

  pub step_less : length z < length x
  step_less = omega (arith, ap length step_tokens, x_long s.node_at h)

  -- Room for the next step.
  pub step_room : (v : Item) {buf bufs : List ℕ} {t u : Laid} → length x + (t.to - t.from) ≤ 512 → Lies (one v) buf t
      → Lies (one (seen_behind s v)) bufs u → length z + (u.to - u.from) ≤ 512
  step_room v m l k =
      omega (arith, m, ap length step_tokens, l.held.many, k.held.many, ap length s.node_at.is, turned_long s.kind v s.held.at.item s.held.at.left s.held.at.right)

  -- What the leaf sees is what it sees in that item.
  pub step-sees : (b : ℕ) (v : Item) {bufs : List ℕ} {u : Laid} → p ≡ index_of b x
      → (p - 1 - e ≡ index_of b z → Lies (one (sees b (seen_behind s v) s.held.at.item)) bufs u)
      → Lies (one (sees b v y)) bufs u
  step-sees b v {bufs} {u} q k =
      let f = s.held.at.left in
      let i = s.held.at.item in
      let g = s.held.at.right in
      let o = found b s.inner (p - 1) e s.held (omega (arith, q, node_index b s.kind s.inner s.text)) in
      let see : sees b v y ≡ sees b (seen_behind s v) i =
      ap (sees b v) (s.is ∙ ap (node_item s.kind) s.held.at.is) ∙ sees-step b s.kind v f i g o.not_before o.in_item in
      subst (λ (t : Item). Lies (one t) bufs u) (sym see) (k (o.there ∙ ap (index_of b) (sym step_tokens)))

-- As many tokens as before.
leaf_long : (b : ℕ) → length (flat (one (leaf_item b))) ≡ 1
unfolding encode
leaf_long b = refl

seen_long : (s r : ℕ) (x : Item) → In r (leaves_of x) → length (flat (one (seen s r x))) ≡ length (flat (one x))
seen_long s r x h =
    let q = to_leaf (λ u y. length (flat (one u)) + length (flat (one y)) ≡ length (flat (one (leaf_item s))) + length (flat (one x)))
    (λ k u y a b e. turned_long k u y a b ∙ e) r s x refl h in
    omega (arith, q, leaf_long s, leaf_long r)

-- The whole way from the leaf s to the leaf b.
module _ {b : ℕ} {toks : List ℕ} (t : HasLeaf b toks) where
  root : (x : Item) × (t.shown ≡ one x)
  root = the_item b t.shown t.single t.has

  pub root_tokens : (x : Item) × ItemTokens toks x
  root_tokens = (root.0, (t.is ∙ ap (λ (f : Forest). flat f) root.1, subst Forked root.1 t.forked))

  pub in_tokens : {p : ℕ} → p ≡ index_of b toks → p < length toks
  in_tokens q = omega (arith, q, ap (index_of b) t.is, ap length t.is, index_leaf b t.shown t.has)

  pub seen_root : (s : ℕ) {buf : List ℕ} {u : Laid} → Lies (one (sees b (leaf_item s) root_tokens.0)) buf u → Lies (seen_from s b t.shown) buf u
  unfolding root_tokens
  seen_root s {buf} {u} l = subst (λ (f : Forest). Lies f buf u) (sym (ap (seen_from s b) root.1 ∙ seen_one s b root.0)) l

  pub tree_long : (s : ℕ) → length (flat (seen_from s b t.shown)) ≡ length toks
  unfolding root_tokens
  tree_long s =
      let e = root.1 in
      ap (λ (f : Forest). length (flat f)) (ap (seen_from s b) e ∙ seen_one s b root.0)
      ∙ seen_long s b root.0 (subst (In b) (ap frontier e ∙ frontier-one root.0) t.has)
      ∙ ap length (sym root_tokens.1.0)

  pub seen_as : (s : ℕ) (f : Forest) → toks ≡ flat f → flat (seen_from s b t.shown) ≡ flat (seen_from s b f)
  seen_as s f e = ap (λ (g : Forest). flat (seen_from s b g)) (flat_injective t.shown f (sym t.is ∙ e))

-- The leaf s in the middle of the buffer.
one_leaf : (s : ℕ) → flat (one (leaf_item s)) ≡ (16 * s) ∷ []
unfolding encode leaf_token
one_leaf s = let q : 16 * s + 0 ≡ 16 * s = omega arith in ap (λ (m : ℕ). m ∷ []) q

pub leaf_lies : (s : ℕ) (buf : List ℕ) {u : Laid} → length buf ≡ 1024 → u.from ≡ 512 → u.to ≡ 513 → u.first ≡ s → Lies (one (leaf_item s)) (set buf 512 (16 * s)) u
leaf_lies s buf {u} n f t e = record { held = rw (f, t, one_leaf s) there; leaf_is = e; single = refl }
  where
    there : StandsIn ((16 * s) ∷ []) (set buf 512 (16 * s)) 512 513
    there = holds (around_head (16 * s) (around {xs = []} {buf = buf} {from = 513} {to = 513} (record { many = refl; text = refl }) (omega (arith, n))) refl)

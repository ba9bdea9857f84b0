-- The aim's call where the tables pass and the book has the group: 14 iff the group is empty, 10 iff it is not consecutive, and a leaf iff it stands
-- in the middle of the run.
use mathlib.Core.Path.{◌≡◌, refl, sym, ap, subst, ◌∙◌}
use mathlib.Core.Logic.{◌↔◌}
use mathlib.Core.Bool.{Bool, true, false, not, true≢false}
use mathlib.Core.List.{List, [], ◌∷◌}
use Prim.Native.Nat.{ℕ, ◌-◌, ◌≤◌}
use native.Mathlib.Omega.{arith}
use borrow.Author.Tests.{leb-true, ne_eqb, le-ltb}
use lib.Dec.{leb}
use lib.ListN.{length}
use Rattle.spec_orders.specs.Lists.{count}
use Rattle.spec_orders.specs.declared.Layout.{Layout}
use Rattle.spec_orders.specs.CircularOrder.{Restriction, EmptyGroup}
use Rattle.spec_orders.specs.Layout.{ConsecutiveOn, Visible}
use Rattle.spec_orders.specs.Tree.{Forest}
use Rattle.spec_orders.specs.Form.{StandardOrder}
use Rattle.spec_orders.specs.SeenFrom.{standard_on}
use Rattle.spec_orders.specs.Conflict.{consecutive_on?}
use Rattle.spec_orders.specs.Aim.{aim_of, AimedOn}
use Rattle.spec_orders.proofs.Members.{perm_in, all_passed}
use Rattle.spec_orders.proofs.Numbers.{numbers_in, count_some}
use Rattle.spec_orders.proofs.Decide.{decides_on}
use Rattle.spec_orders.proofs.EmptyGroups.{empty_on}
use Rattle.spec_orders.proofs.Straight.{standard-leaves, standard-length, standard_iff}
use Rattle.spec_orders.proofs.StraightAims.{aimed_on, aimed_on_only, aimed_on_inside, aimed_on_consecutive}
use Rattle.mark_words.specs.Marks.{leaves_of, no_mark?}
use Rattle.mark_words.proofs.Leaves.{leaf_marked, leaf_range, no_mark, some_mark}
use Rattle.spec_calls.specs.Tables.{Nodes, Book}
use Rattle.spec_calls.specs.Book.{group_words}
use Rattle.spec_calls.specs.declared.Refusal.TheVariants.{NoAim, NotConsecutive}
use Rattle.spec_calls.specs.Refusals.{Reply, reply, refuse, first_refusal}
use Rattle.spec_calls.specs.Calls.{group_numbered, answered, aim_refusal, aim_call}
use Rattle.spec_calls.specs.Demands.{LentTree, LentBook}
use Rattle.spec_calls.proofs.Books.{group_form, numbered_visible}
use Rattle.spec_calls.proofs.Demands.{whole_size, whole-rack, whole-nodes, lent_held}

module _ (nodes : Nodes) (book : Book) (t : Forest) (h : LentTree nodes t) (b : LentBook nodes.bins book) (k : ℕ) (i : 1 ≤ k) (m : k ≤ book.count) where
  abbrev l : Layout
  l = nodes.layout

  abbrev n : ℕ
  n = nodes.bins

  -- The standard order.
  abbrev std : List ℕ
  std = standard_on l n t

  abbrev G : Restriction
  G = group_numbered book.words k

  abbrev words : List ℕ
  words = group_words book.words (k - 1)

  -- What is answered, by 14, 10 and the aim.
  abbrev by_checks : Bool → Bool → ℕ → Reply
  by_checks no_leaf gap leaf = answered (first_refusal (refuse no_leaf NoAim ∷ refuse gap NotConsecutive ∷ [])) leaf

  aim_checked : aim_call nodes book k ≡ by_checks (no_mark? words) (not (consecutive_on? l G std)) (aim_of l G std)
  unfolding aim_call aim_refusal
  aim_checked =
      rw (
        whole_size h.whole,
        whole-rack h.whole,
        whole-nodes h.whole,
        le-ltb (length book.words) 384 b.all_words,
        lent_held nodes t h,
        b.in_form,
        ne_eqb k 0 (λ e. omega arith),
        le-ltb book.count k m,
      )

  pub aim_empty : (aim_call nodes book k ≡ reply 14 0) ↔ EmptyGroup G
  aim_empty = subst (λ (r : Reply). (r ≡ reply 14 0) ↔ EmptyGroup G) (sym aim_checked) (go (no_mark? words) refl (not (consecutive_on? l G std)) (aim_of l G std))
    where
      not_14 : (c : Bool) (v : ℕ) → by_checks false c v ≡ reply 14 0 → ⊥
      not_14 true v p = omega (arith, ap (λ (r : Reply). r.number) p)
      not_14 false v p = omega (arith, ap (λ (r : Reply). r.number) p)

      go : (e : Bool) → no_mark? words ≡ e → (c : Bool) (v : ℕ) → (by_checks e c v ≡ reply 14 0) ↔ EmptyGroup G
      go true q c v = (λ p. (no_mark words).0 q, λ e. refl)
      go false q c v = (λ p. absurd (not_14 c v p), λ e. absurd (true≢false (sym ((no_mark words).1 e) ∙ q)))

  -- A group with a mark has a leaf in the standard order.
  some_leaf : no_mark? words ≡ false → 1 ≤ count G std
  some_leaf e =
      let (x, there) = some_mark words e in
      let r = leaf_range words x there in
      let most = leb-true x nodes.bins ((all_passed (λ y. leb y nodes.bins) (leaves_of words)).0 (group_form nodes.bins book (k - 1) b (omega arith)) x there) in
      count_some G std x (leaf_marked words x there)
      (perm_in x (standard-leaves l n t h.whole.some_bin h.tree.in_form) (numbers_in 1 n x r.0 (omega arith)))

  is_standard : (ord : List ℕ) → StandardOrder l n t ord → ord ≡ std
  is_standard ord s = (standard_iff l n t h.whole.some_bin h.tree.in_form ord).0 s

  visible : Visible l (length std) G
  visible = subst (λ (many : ℕ). Visible l many G) (sym (standard-length l n t h.whole.some_bin h.tree.in_form)) (numbered_visible l n book k b i m)

  pub aim_middle : (ord : List ℕ) → StandardOrder l n t ord → (leaf : ℕ) → (aim_call nodes book k ≡ reply 0 leaf) ↔ AimedOn l G ord leaf
  aim_middle ord s leaf =
      subst (λ (o : List ℕ). (aim_call nodes book k ≡ reply 0 leaf) ↔ AimedOn l G o leaf) (sym (is_standard ord s))
      (subst (λ (r : Reply). (r ≡ reply 0 leaf) ↔ AimedOn l G std leaf) (sym aim_checked) (go (no_mark? words) refl (consecutive_on? l G std) refl))
    where
      go : (e : Bool) → no_mark? words ≡ e → (c : Bool) → consecutive_on? l G std ≡ c
          → (by_checks e (not c) (aim_of l G std) ≡ reply 0 leaf) ↔ AimedOn l G std leaf
      go true q c p = (
        (λ e. absurd (omega (arith, ap (λ (r : Reply). r.number) e))),
        (λ a. absurd (true≢false (sym (aimed_on_inside l G std leaf a) ∙ (no_mark words).0 q leaf))),
      )
      go false q false p = (
        (λ e. absurd (omega (arith, ap (λ (r : Reply). r.number) e))),
        (λ a. absurd (true≢false (sym ((decides_on l G std).1 (aimed_on_consecutive l G std leaf a)) ∙ p))),
      )
      go false q true p = (
        (λ e. subst (AimedOn l G std) (ap (λ (r : Reply). r.value) e) (aimed_on l G std visible ((decides_on l G std).0 p) (some_leaf q))),
        (λ a. ap (reply 0) (aimed_on_only l G std leaf visible a)),
      )

  pub aim_apart : (ord : List ℕ) → StandardOrder l n t ord → (aim_call nodes book k ≡ reply 10 0) ↔ (ConsecutiveOn l G ord → ⊥)
  aim_apart ord s =
      subst (λ (o : List ℕ). (aim_call nodes book k ≡ reply 10 0) ↔ (ConsecutiveOn l G o → ⊥)) (sym (is_standard ord s))
      (subst (λ (r : Reply). (r ≡ reply 10 0) ↔ (ConsecutiveOn l G std → ⊥)) (sym aim_checked) (go (no_mark? words) refl (consecutive_on? l G std) refl))
    where
      go : (e : Bool) → no_mark? words ≡ e → (c : Bool) → consecutive_on? l G std ≡ c
          → (by_checks e (not c) (aim_of l G std) ≡ reply 10 0) ↔ (ConsecutiveOn l G std → ⊥)
      go true q c p = (
        (λ e. absurd (omega (arith, ap (λ (r : Reply). r.number) e))),
        (λ apart. absurd (apart (empty_on l G ((no_mark words).0 q) std))),
      )
      go false q false p = ((λ e h. true≢false (sym ((decides_on l G std).1 h) ∙ p)), (λ apart. refl))
      go false q true p = (
        (λ e. absurd (omega (arith, ap (λ (r : Reply). r.number) e))),
        (λ apart. absurd (apart ((decides_on l G std).0 p))),
      )

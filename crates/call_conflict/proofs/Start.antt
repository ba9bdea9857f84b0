-- The start: the chosen leaves stand for all n, and the tree of them allows all their orders.
use mathlib.Core.Path.{◌≡◌, refl, sym, ap, subst, ◌∙◌}
use mathlib.Core.Logic.{◌⊎◌, inl, inr}
use mathlib.Core.Bool.{Bool, not-not, cond, false, not, true}
use mathlib.Core.Option.{none, some}
use mathlib.Core.List.{List, [], ◌∷◌, ◌++◌}
use Prim.Native.Nat.{ℕ, zero, suc, ◌≤◌}
use native.Mathlib.Decide.{ℕ_discrete}
use native.Mathlib.Omega.{arith}
use Rattle.spec_orders.specs.declared.Layout.TheVariants.{Ring}
use Rattle.spec_orders.specs.Lists.{In, those_of}
use Rattle.spec_orders.specs.CircularOrder.{others, CircularOrder, Restriction, Consecutive}
use Rattle.spec_orders.specs.Tree.{Forest}
use Rattle.spec_orders.specs.Join.{join}
use Rattle.spec_orders.proofs.Rearranged.{perm_all, perm_distinct}
use Rattle.spec_orders.proofs.Members.{in_all, all_in}
use Rattle.spec_orders.proofs.Numbers.{in_those, those_in, numbers_in, those_distinct}
use Rattle.spec_orders.proofs.Forms.{others_range, others_distinct}
use Rattle.spec_orders.proofs.Fresh.{pack-leaves, others_rising, leaves_form}
use Rattle.spec_orders.proofs.Conflicts.{one_possible}
use Rattle.spec_orders.proofs.Unused.{rising_those, narrow_consecutive, widen, behind, widen_consecutive, behind_alike, kept, dropped, narrow_order, widen_order}
use Rattle.tree_update.specs.Update.{FormWithin}
use Rattle.conflict_leaves.specs.StandIn.{Unused, Chosen, start, OrderOf, StandIn}
use Rattle.conflict_rule.specs.LeavingOut.{Represents}
use Rattle.conflict_rule.proofs.Trees.{joined_represented, joined_not}

others_in : (n b : ℕ) → 2 ≤ b → b ≤ n → In b (others n)
others_in zero b h l = absurd (omega arith)
others_in (suc n) b h l = numbers_in 2 n b h (omega arith)

module _ {n : ℕ} {new : Restriction} {f : ℕ → Restriction} {keep : Restriction} (c : Chosen n new f keep) where
  -- A leaf that is left out; the spare one is kept for such leaves.
  gone : (z : ℕ) → In z (dropped n keep) → (1 ≤ z) × (z ≤ n) × (keep z ≡ false)
  gone z i =
      let r = in_those (λ b. not (keep b)) (others n) z i in
      let s = all_in (λ b. (2 ≤ b) × (b ≤ n)) z (others n) (others_range n) r.1 in
      (omega (arith, s.0), s.1, sym (not-not (keep z)) ∙ ap not r.0)

  spare_in : (1 ≤ c.spare) × (c.spare ≤ n) × (keep c.spare ≡ true) × Unused new f c.spare → In c.spare (1 ∷ kept n keep)
  spare_in s = go (ℕ_discrete c.spare 1)
    where
      go : Dec (c.spare ≡ 1) → In c.spare (1 ∷ kept n keep)
      go (yes e) = inl e
      go (no u) = inr (those_in keep (others n) c.spare s.2 (others_in n c.spare (omega (arith, s.0)) s.1))

  placed : In c.spare (1 ∷ kept n keep) ⊎ (dropped n keep ≡ [])
  placed = go (dropped n keep) refl
    where
      go : (l : List ℕ) → dropped n keep ≡ l → In c.spare (1 ∷ kept n keep) ⊎ (dropped n keep ≡ [])
      go [] q = inr q
      go (z ∷ l) q = let g = gone z (subst (In z) (sym q) (inl refl)) in inl (spare_in (c.for_them z g.0 g.1 g.2))

  abbrev wide : List ℕ → List ℕ
  wide = widen (behind c.spare (dropped n keep))

  -- A restriction to leaves in use.
  wide_hangs : (G : Restriction) → ((b : ℕ) → Unused new f b → G b ≡ false) → (ord : List ℕ) → Consecutive G ord → Consecutive G (wide ord)
  wide_hangs G u ord =
      widen_consecutive (behind c.spare (dropped n keep)) G (behind_alike G c.spare (dropped n keep)
      (in_all (λ z. G z ≡ G c.spare) (dropped n keep)
      (λ z i. let g = gone z i in u z (c.left_out z g.0 g.1 g.2) ∙ sym (u c.spare (c.for_them z g.0 g.1 g.2).3))))
      ord

  first_kept : (xs : List ℕ) → those_of keep (1 ∷ xs) ≡ 1 ∷ those_of keep xs
  first_kept xs = ap (λ (b : Bool). cond b (1 ∷ those_of keep xs) (those_of keep xs)) c.one

  wide_is_order : (ord : List ℕ) → OrderOf (kept n keep) ord → CircularOrder n (wide ord)
  unfolding widen
  wide_is_order ord r = record {
    after = behind c.spare (dropped n keep) 1 ++ wide r.after;
    one_first = ap wide r.one_first;
    all_leaves = widen_order n keep c.spare placed r.all_leaves;
  }

  stand_in : StandIn n f
  stand_in = record {
    leaves = kept n keep;
    narrow = those_of keep;
    narrow_order = λ ord r. record {
      after = those_of keep r.after;
      one_first = ap (those_of keep) r.one_first ∙ first_kept r.after;
      all_leaves = narrow_order n keep r.all_leaves;
    };
    narrow_keeps = narrow_consecutive keep;
    wide = wide;
    wide_order = wide_is_order;
    wide_keeps = λ j h l. wide_hangs (f j) (λ b u. u.not_booked j h l);
  }

  pub start_form : FormWithin n (start n keep)
  unfolding start
  start_form =
      let r = leaves_form (kept n keep) (rising_those keep (others n) (others_rising n)) in
      record {
        single = r.0;
        canonical = r.1;
        different = perm_distinct r.2 (those_distinct keep (others n) (others_distinct n));
        in_range = perm_all (λ b. (2 ≤ b) × (b ≤ n)) r.2
            (in_all (λ b. (2 ≤ b) × (b ≤ n)) (kept n keep) (λ b i. all_in (λ b. (2 ≤ b) × (b ≤ n)) b (others n) (others_range n) (in_those keep (others n) b i).1));
      }

  start_represented : Represents n f [] (start n keep)
  unfolding start stand_in
  start_represented = record {
    over = stand_in;
    form = start_form;
    orders = λ ord. (
      (λ a. (record { after = a.after; one_first = a.one_first; all_leaves = (pack-leaves (kept n keep) a.after).0 a.order }, tt)),
      (λ r. record { after = r.0.after; one_first = r.0.one_first; order = (pack-leaves (kept n keep) r.0.after).1 r.0.all_leaves }),
    );
    wide_keeps_all = λ ord w. tt;
  }

  -- The tree of the new group: there is one.
  pub one_represented : {u : Forest} → join new (start n keep) ≡ some u → Represents n f (new ∷ []) u
  unfolding start_represented stand_in
  one_represented e =
      joined_represented new start_represented (wide_hangs new (λ b u. u.not_new)) (new ∷ []) (λ ord. ((λ w. (tt, w.0)), (λ w. (w.1, tt)))) e

  pub one-joins : join new (start n keep) ≡ none → ⊥
  one-joins e = joined_not new start_represented (new ∷ []) (λ ord w. (tt, w.0)) e (one_possible Ring n new)

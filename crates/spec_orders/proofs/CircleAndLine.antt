-- The circle law: a restriction is consecutive round the circle `x ∷ xs` iff its side without x is contiguous in xs.
use mathlib.Core.Path.{◌∙◌, ◌≡◌, ap, refl, sym}
use mathlib.Core.Logic.{◌↔◌, ◌⊎◌, inl, inr}
use mathlib.Core.Bool.{Bool, not-not, cond, false, not, true, true≢false}
use mathlib.Core.List.{[], ◌++◌, ◌∷◌, append_assoc, append-nil, head-eq_of_cons-eq}
use Prim.Native.Nat.{ℕ}
use Rattle.spec_orders.specs.Lists.{All}
use Rattle.spec_orders.specs.CircularOrder.{Restriction, Inside, Outside, Consecutive}
use Rattle.spec_orders.specs.Reduce.{complement}
use Rattle.spec_orders.specs.Join.{side}
use Rattle.spec_orders.proofs.ListLaws.{all_append, all_map}
use Rattle.spec_orders.proofs.Members.{Later, cut}
use Rattle.spec_orders.specs.Layout.{Contiguous}
use Rattle.spec_orders.proofs.Contiguous.{L, front_all, back_all, con, con_cut, con_back}

pub complement_in : (G : Restriction) (l : L) → Inside G l → Outside (complement G) l
complement_in G = all_map (λ x. G x ≡ true) (λ x. complement G x ≡ false) (λ x. ap not)

pub complement_out : (G : Restriction) (l : L) → Outside G l → Inside (complement G) l
complement_out G = all_map (λ x. G x ≡ false) (λ x. complement G x ≡ true) (λ x. ap not)

complement_twice : (G : Restriction) (b : Bool) (l : L) → All (λ x. complement (complement G) x ≡ b) l → All (λ x. G x ≡ b) l
complement_twice G b = all_map (λ x. complement (complement G) x ≡ b) (λ x. G x ≡ b) (λ x e. sym (not-not (G x)) ∙ e)

pub uncomplement_out : (G : Restriction) (l : L) → Outside (complement G) l → Inside G l
uncomplement_out G l h = complement_twice G true l (complement_out (complement G) l h)

-- The restriction lacks x: its leaves are contiguous in xs.
to_line : (G : Restriction) (x : ℕ) (xs : L) → G x ≡ false → Consecutive G (x ∷ xs) → Contiguous G xs
to_line G x xs n t = con_back G (x ∷ []) xs (con_cut G (x ∷ []) xs refl (go (cut t.after t.run t.turned)))
  where
    wrap : (w : L) → x ∷ xs ≡ w ++ (t.rest ++ t.after) → Inside G w → Inside G t.after → Contiguous G (x ∷ xs)
    wrap [] e i j = con G t.rest t.after [] (e ∙ ap (◌++◌ t.rest) (sym (append-nil t.after))) t.out_rest j tt
    wrap (y ∷ w) e i j = absurd (true≢false (sym i.0 ∙ ap G (sym (head-eq_of_cons-eq e)) ∙ n))

    go : Later t.after t.before t.run t.rest ⊎ Later t.run t.rest t.after t.before → Contiguous G (x ∷ xs)
    go (inl k) =
        wrap k.0 (t.cut ∙ ap (λ z. z ++ t.after) k.2 ∙ append_assoc k.0 t.rest t.after) (back_all _ t.after k.0 k.1 t.in_run) (front_all _ t.after k.0 k.1 t.in_run)
    go (inr k) =
        con G t.before t.run k.0 (t.cut ∙ ap (◌++◌ t.before) k.1) (back_all _ k.0 t.before k.2 t.out_rest) t.in_run (front_all _ k.0 t.before k.2 t.out_rest)

from_line : (G : Restriction) (x : ℕ) (xs : L) → G x ≡ false → Contiguous G xs → Consecutive G (x ∷ xs)
from_line G x xs n c =
    record {
      before = x ∷ c.left;
      after = c.run ++ c.right;
      run = c.run;
      rest = c.right ++ (x ∷ c.left);
      cut = ap (λ l. x ∷ l) c.parts;
      turned = append_assoc c.run c.right (x ∷ c.left);
      in_run = c.in_run;
      out_rest = all_append (λ z. G z ≡ false) c.right (x ∷ c.left) c.out_right (n, c.out_left);
    }

-- A restriction is consecutive where its complement is.
turn_over : (G : Restriction) (ord : L) → Consecutive G ord → Consecutive (complement G) ord
turn_over G ord t = go (cut t.after t.run t.turned)
  where
    go : Later t.after t.before t.run t.rest ⊎ Later t.run t.rest t.after t.before → Consecutive (complement G) ord
    go (inl k) =
        record {
          before = k.0;
          after = t.rest ++ t.after;
          run = t.rest;
          rest = t.run;
          cut = t.cut ∙ ap (λ z. z ++ t.after) k.2 ∙ append_assoc k.0 t.rest t.after;
          turned = append_assoc t.rest t.after k.0 ∙ ap (◌++◌ t.rest) (sym k.1);
          in_run = complement_out G t.rest t.out_rest;
          out_rest = complement_in G t.run t.in_run;
        }
    go (inr k) =
        record {
          before = t.before ++ t.run;
          after = k.0;
          run = t.rest;
          rest = t.run;
          cut = t.cut ∙ ap (◌++◌ t.before) k.1 ∙ sym (append_assoc t.before t.run k.0);
          turned = sym (append_assoc k.0 t.before t.run) ∙ ap (λ z. z ++ t.run) (sym k.2);
          in_run = complement_out G t.rest t.out_rest;
          out_rest = complement_in G t.run t.in_run;
        }

turn_back : (G : Restriction) (ord : L) → Consecutive (complement G) ord → Consecutive G ord
turn_back G ord t =
    let r = turn_over (complement G) ord t in
    record {
      before = r.before;
      after = r.after;
      run = r.run;
      rest = r.rest;
      cut = r.cut;
      turned = r.turned;
      in_run = complement_twice G true r.run r.in_run;
      out_rest = complement_twice G false r.rest r.out_rest;
    }

pub consecutive_side : (G : Restriction) (x : ℕ) (xs : L) → Consecutive G (x ∷ xs) ↔ Contiguous (side x G) xs
unfolding side
consecutive_side G x xs = by_side (G x) refl
  where
    by_side : (b : Bool) → G x ≡ b → Consecutive G (x ∷ xs) ↔ Contiguous (cond b (complement G) G) xs
    by_side true e = ((λ t. to_line (complement G) x xs (ap not e) (turn_over G (x ∷ xs) t)), (λ c. turn_back G (x ∷ xs) (from_line (complement G) x xs (ap not e) c)))
    by_side false e = (to_line G x xs e, from_line G x xs e)

-- A group line's marks; the aim of its group in the standard order, from them.
use mathlib.Core.Path.{◌≡◌, refl, sym, ap, ◌∙◌}
use mathlib.Core.Logic.{◌≢◌}
use mathlib.Core.List.{List, [], ◌∷◌, ◌++◌}
use Prim.Native.Nat.{ℕ, ◌≤◌}
use native.Mathlib.Omega.{arith}
use lib.ListN.{length}
use Rattle.spec_orders.specs.declared.Layout.TheVariants.{Ring}
use Rattle.spec_orders.specs.Lists.{All, count, elem, numbers_from}
use Rattle.spec_orders.specs.CircularOrder.{Restriction, WellFormed, group_of}
use Rattle.spec_orders.specs.Aim.{run_start, aim_place, aim_of}
use Rattle.spec_orders.specs.Circles.{bytes}
use Rattle.spec_orders.proofs.ListLaws.{all_map, all_at}
use Rattle.spec_orders.proofs.Members.{in_all}
use Rattle.spec_orders.proofs.Rearranged.{perm_all}
use Rattle.spec_orders.proofs.Numbers.{in_range, perm_count, count_elem}
use Rattle.spec_orders.proofs.StandardOrders.{all_standard}
use Rattle.spec_orders.proofs.Aims.{aim_place_in}
use Rattle.spec_orders.proofs.TextTree.{form_length}
use Rattle.mark_words.specs.Marks.{marked, words_of, leaves_of}
use Rattle.mark_words.proofs.Words.{length_words}
use Rattle.mark_words.proofs.Leaves.{marked_group, size_of_list}
use Rattle.spec_calls.proofs.Demands.{well_formed_passes}
use Rattle.std.specs.declared.result.Result.{Result}
use Rattle.std.specs.declared.result.Result.TheVariants.{Ok, Err}
use Rattle.table_book.specs.Lists.{ListChecked}
use Rattle.spec_listing.specs.Listing.{name, aim_field}
use Rattle.call_order.specs.Starts.{GroupWithin}
use Rattle.list_fields.specs.Ordered.{Ordered}
use Rattle.spec_calls.specs.declared.Refusal.{Refusal}

-- A well_formed list passes the checks.
pub line_marked : (n : ℕ) (list words : List ℕ) (r : Result (Unit {0}) Refusal) → WellFormed n list → ListChecked n list words r → words ≡ words_of 4 (group_of n list)
line_marked n list words (Ok tt) g h = h.1
line_marked n list words (Err r) g h = absurd (let e = sym (well_formed_passes n list g) ∙ h in let z : ◌≡◌ {A = ℕ} 0 1 = cc in omega (arith, z))

-- The field of the aim, where there is a leaf; the fields where there is none.
pub leaf_told : (names : List (List ℕ)) (ord list : List ℕ) → length list ≢ 0 → name names (aim_of Ring (elem list) ord) ≡ aim_field names ord list
leaf_told names ord [] h = absurd (h refl)
leaf_told names ord (b ∷ l) h = refl

pub no_leaf-told : (names : List (List ℕ)) (ord list : List ℕ) → length list ≡ 0 → bytes " kept - -" ≡ bytes " kept " ++ (aim_field names ord list ++ bytes " -")
no_leaf-told names ord [] h = refl
no_leaf-told names ord (b ∷ l) h = absurd (omega arith)

module _ {n : ℕ} {order : List ℕ} (o : Ordered n order) where
  pub order_length : length order ≡ n
  order_length = ap length o.is ∙ omega (arith, form_length n o.tree o.form, o.some_leaf)

  pub order_all : All (λ b. (1 ≤ b) × (b ≤ n)) order
  order_all =
      rw o.is
      (perm_all (λ b. (1 ≤ b) × (b ≤ n)) (all_standard n o.tree o.form o.some_leaf)
      (in_all (λ b. (1 ≤ b) × (b ≤ n)) (numbers_from 1 n) (λ x i. let r = in_range 1 n x i in (r.0, omega (arith, r.1)))))

  pub aim_range : (G : Restriction) → (1 ≤ aim_of Ring G order) × (aim_of Ring G order ≤ n)
  unfolding aim_of
  aim_range G =
      all_at (λ b. (1 ≤ b) × (b ≤ n)) 0 order (aim_place Ring (length order) (run_start Ring G order) (count G order)) order_all
      (aim_place_in (length order) (run_start Ring G order) (count G order) (omega (arith, order_length, o.some_leaf)))

  module _ (list words : List ℕ) (g : WellFormed n list) (w : words ≡ words_of 4 (elem list)) where
    pub same_group : marked words ≡ elem list
    same_group = ap marked w ∙ marked_group 4 n list o.few_leaves g

    size : length (leaves_of words) ≡ length list
    size =
        ap (λ (ws : List ℕ). length (leaves_of ws)) w
        ∙ size_of_list 4 list g.different (all_map (λ b. (1 ≤ b) × (b ≤ n)) (λ b. (1 ≤ b) × (b ≤ 256)) (λ b r. (r.0, omega (arith, r.1, o.few_leaves))) list g.in_range)

    counted : count (elem list) order ≡ length list
    counted =
        ap (count (elem list)) o.is
        ∙ sym (perm_count (elem list) (all_standard n o.tree o.form o.some_leaf))
        ∙ count_elem n list g.different g.in_range

    pub kept_within : length list ≢ 0 → GroupWithin words order
    kept_within some = record {
      four = ap length w ∙ length_words 4 (elem list);
      some_leaf = omega (arith, size, some);
      all_leaves = ap (λ (G : Restriction). count G order) same_group ∙ counted ∙ sym size;
      some_place = omega (arith, order_length, o.some_leaf);
      few_places = omega (arith, order_length, o.few_leaves);
    }

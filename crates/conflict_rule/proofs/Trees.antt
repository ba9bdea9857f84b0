-- A tree and the groups whose orders it allows; where a walk down stops, and what the leaving-out rule then keeps.
use mathlib.Core.Path.{◌≡◌, sym, ap, subst, ◌∙◌}
use mathlib.Core.Logic.{◌↔◌}
use mathlib.Core.Option.{none, some}
use mathlib.Core.List.{List, [], ◌∷◌, ◌++◌, map, append-nil}
use Prim.Native.Nat.{ℕ, ◌+◌, ◌-◌, ◌≤◌, ◌<◌}
use native.Mathlib.Omega.{arith}
use lib.ListN.{length, take, drop, get_or, take-append-drop}
use lib.Seq.{drop-length, drop-drop}
use Rattle.tree_tokens.specs.Tokens.{flat}
use Rattle.spec_orders.specs.declared.Layout.TheVariants.{Ring}
use Rattle.spec_orders.specs.CircularOrder.{Restriction, Consecutive}
use Rattle.spec_orders.specs.Layout.{AllOn, Possible}
use Rattle.spec_orders.specs.Tree.{Forest, Allowed}
use Rattle.spec_orders.specs.Form.{standard}
use Rattle.spec_orders.specs.Join.{join}
use Rattle.spec_orders.proofs.ListLaws.{all_map, all_middle}
use Rattle.spec_orders.proofs.StandardOrders.{standard_allowed}
use Rattle.spec_orders.proofs.Joining.{Allows, orders_left}
use Rattle.spec_orders.specs.Conflict.{possible?, leave_out, conflict_list}
use Rattle.spec_orders.proofs.Conflicts.{list_empty, list_kept, possible_tests}
use Rattle.tree_update.specs.Update.{TokensWithin}
use Rattle.tree_update.proofs.Updates.{join_form}
use Rattle.conflict_leaves.specs.StandIn.{OrderOf}
use Rattle.conflict_rule.specs.LeavingOut.{Represents, TokensRepresent, Walked, Stops, goes_on}
use Rattle.conflict_rule.proofs.Keeping.{fewer_behind, rule_behind, rule_next, goes_on_none}
use Rattle.conflict_rule.proofs.Places.{from_before}

module _ {n : ℕ} {f : ℕ → Restriction} {Gs : List Restriction} {t : Forest} (G : Restriction) (rep : Represents n f Gs t) where
  -- A group joins. It stands anywhere among the others.
  pub joined_represented : ((ord : List ℕ) → Consecutive G ord → Consecutive G (rep.over.wide ord)) → (Hs : List Restriction) {u : Forest}
      → ((ord : List ℕ) → AllOn Ring Hs ord ↔ (AllOn Ring Gs ord × Consecutive G ord)) → join G t ≡ some u → Represents n f Hs u
  joined_represented g Hs {u} h e = record {
    over = rep.over;
    form = join_form G rep.form e;
    orders = λ ord. ((λ a. to ord ((left ord).0 a)), (λ r. from ord r));
    wide_keeps_all = λ ord w. let s = (h ord).0 w in (h (rep.over.wide ord)).1 (rep.wide_keeps_all ord s.0, g ord s.1);
  }
    where
      left : (ord : List ℕ) → Allowed u ord ↔ (Allowed t ord × Consecutive G ord)
      left ord = subst (λ o. Allows o ord ↔ (Allowed t ord × Consecutive G ord)) e (orders_left G t rep.form.single rep.form.canonical ord)

      to : (ord : List ℕ) → Allowed t ord × Consecutive G ord → OrderOf rep.over.leaves ord × AllOn Ring Hs ord
      to ord a = let r = (rep.orders ord).0 a.0 in (r.0, (h ord).1 (r.1, a.1))

      from : (ord : List ℕ) → OrderOf rep.over.leaves ord × AllOn Ring Hs ord → Allowed u ord
      from ord r = let s = (h ord).0 r.1 in (left ord).1 ((rep.orders ord).1 (r.0, s.0), s.1)

  pub joined_not : (Hs : List Restriction) → ((ord : List ℕ) → AllOn Ring Hs ord → AllOn Ring Gs ord × Consecutive G ord)
      → join G t ≡ none → Possible Ring n Hs → ⊥
  joined_not Hs h e p =
      let ord = rep.over.narrow p.order in
      let s = h ord (all_map (λ H. Consecutive H p.order) (λ H. Consecutive H ord) (λ H. rep.over.narrow_keeps H p.order) Hs p.hang) in
      subst (λ o. Allows o ord) e ((orders_left G t rep.form.single rep.form.canonical ord).1
      ((rep.orders ord).1 (rep.over.narrow_order p.order p.is_order, s.0), s.1))

pub represented_possible : {n : ℕ} {f : ℕ → Restriction} {Gs : List Restriction} {t : Forest} → Represents n f Gs t → Possible Ring n Gs
represented_possible {t = t} rep =
    let r = (rep.orders (standard t)).0 (standard_allowed t) in
    record {
      order = rep.over.wide (standard t);
      is_order = rep.over.wide_order (standard t) r.0;
      hang = rep.wide_keeps_all (standard t) r.1;
    }

pub stands_within : {n : ℕ} {f : ℕ → Restriction} {toks : List ℕ} → TokensRepresent n f toks → TokensWithin n toks
stands_within s = (s.0, s.2, s.3.form, s.4)

-- All numbers, and those behind some.
behind : (n : ℕ) (f : ℕ → Restriction) (Gs : List Restriction) (js : List ℕ) (i : ℕ) → Possible Ring n (Gs ++ map f js) → Possible Ring n (Gs ++ map f (drop i js))
behind n f Gs js i p = fewer_behind (possible_tests Ring n) f Gs (take i js) (drop i js) (subst (λ l. Possible Ring n (Gs ++ map f l)) (sym (take-append-drop i js)) p)

module _ {n : ℕ} {f : ℕ → Restriction} {Gs : List Restriction} where
  -- A walk begins; one group more joins; it cannot.
  pub walk_begins : {t : Forest} (js : List ℕ) {toks : List ℕ} → Represents n f Gs t → toks ≡ flat t → Walked n f Gs js (length js) toks
  walk_begins {t} js rep e = record {
    tree = t;
    text = e;
    stands = subst (λ Hs. Represents n f Hs t) (sym (append-nil Gs) ∙ ap (λ (l : List ℕ). Gs ++ map f l) (sym (drop-length js))) rep;
  }

  module _ {js : List ℕ} {left : ℕ} {toks : List ℕ} (w : Walked n f Gs js left toks) (h : 0 < left) (g : left ≤ length js) where
    G : Restriction
    G = f (get_or js (left - 1) 0)

    more : (ord : List ℕ) → AllOn Ring (Gs ++ map f (drop (left - 1) js)) ord ↔ (AllOn Ring (Gs ++ map f (drop left js)) ord × Consecutive G ord)
    unfolding G
    more ord = subst (λ l. AllOn Ring (Gs ++ map f l) ord ↔ (AllOn Ring (Gs ++ map f (drop left js)) ord × Consecutive G ord)) (sym (from_before js left h g))
        (all_middle (λ H. Consecutive H ord) Gs G (map f (drop left js)))

    pub walk-joins : {u : Forest} {new : List ℕ} → (1 ≤ get_or js (left - 1) 0) × (get_or js (left - 1) 0 ≤ 96) → join (f (get_or js (left - 1) 0)) w.tree ≡ some u → new ≡ flat u → Walked n f Gs js (left - 1) new
    unfolding G
    walk-joins {u} b e q = record {
      tree = u;
      text = q;
      stands = joined_represented G w.stands (w.stands.over.wide_keeps (get_or js (left - 1) 0) b.0 b.1) (Gs ++ map f (drop (left - 1) js)) more e;
    }

    pub walk_stops : join (f (get_or js (left - 1) 0)) w.tree ≡ none → Stops n f Gs js left
    unfolding G
    walk_stops e = record { one_more = λ l. joined_not G w.stands (Gs ++ map f (drop (left - 1) js)) (λ ord. (more ord).0) e }

  pub walked_stands : {js : List ℕ} {left : ℕ} {toks : List ℕ} → Walked n f Gs js left toks → n ≤ 256 → TokensRepresent n f toks
  walked_stands {js} {left} w h = (w.tree, Gs ++ map f (drop left js), w.text, w.stands, h)

  pub walked_all : {js : List ℕ} {left : ℕ} {toks : List ℕ} (w : Walked n f Gs js left toks) → left ≡ 0 → Represents n f (Gs ++ map f js) w.tree
  walked_all {js} w e = subst (λ i. Represents n f (Gs ++ map f (drop i js)) w.tree) e w.stands

  walked_possible : {js : List ℕ} {left : ℕ} {toks : List ℕ} → Walked n f Gs js left toks → Possible Ring n (Gs ++ map f (drop left js))
  walked_possible w = represented_possible w.stands

  -- The walk stopped: the number at which it did is kept, and those before it are left out.
  pub next_kept : (js : List ℕ) (mid left : ℕ) {toks : List ℕ} → Walked n f Gs (drop mid js) left toks → Stops n f Gs (drop mid js) left
      → 0 < left → mid + left ≤ length js → leave_out (possible? Ring n) f Gs js ≡ goes_on (possible? Ring n) f Gs (get_or js (mid + left - 1) 0 ∷ []) (drop (mid + left) js)
  next_kept js mid left w s h g =
      let e : mid + (left - 1) ≡ mid + left - 1 = omega arith in
      let there = drop-drop (left - 1) mid js ∙ ap (λ (i : ℕ). drop i js) e in
      ap (leave_out (possible? Ring n) f Gs) (sym (take-append-drop (mid + left - 1) js))
      ∙ rule_behind (possible_tests Ring n) f Gs (take (mid + left - 1) js) (drop (mid + left - 1) js) (λ p. s.one_more h (subst (λ l. Possible Ring n (Gs ++ map f l)) (sym there) p))
      ∙ ap (leave_out (possible? Ring n) f Gs) (from_before js (mid + left) (omega arith) g)
      ∙ rule_next (possible_tests Ring n) f Gs (get_or js (mid + left - 1) 0) (drop (mid + left) js) (subst (λ l. Possible Ring n (Gs ++ map f l)) (drop-drop left mid js) (walked_possible w))

  pub no_more : (kept js : List ℕ) {left : ℕ} → Stops n f Gs kept left → 0 < left → goes_on (possible? Ring n) f Gs kept js ≡ kept
  no_more kept js {left} s h = goes_on_none (possible_tests Ring n) f Gs kept js (λ p. s.one_more h (behind n f Gs kept (left - 1) p))

  -- A walk down all numbers: all hang together; or the number at which it stopped is the first one kept.
  pub list_all : (js : List ℕ) {left : ℕ} {toks : List ℕ} → Walked n f Gs js left toks → left ≡ 0 → conflict_list (possible? Ring n) f Gs js ≡ []
  list_all js w e = list_empty (possible_tests Ring n) f Gs js (subst (λ i. Possible Ring n (Gs ++ map f (drop i js))) e (walked_possible w))

  pub first_kept : (js : List ℕ) (left : ℕ) {toks : List ℕ} → Walked n f Gs js left toks → Stops n f Gs js left → 0 < left → left ≤ length js
      → conflict_list (possible? Ring n) f Gs js ≡ goes_on (possible? Ring n) f Gs (get_or js (left - 1) 0 ∷ []) (drop left js)
  first_kept js left w s h g =
      let e : 0 + left ≡ left = omega arith in
      list_kept (possible_tests Ring n) f Gs js (λ p. s.one_more h (behind n f Gs js (left - 1) p))
      ∙ subst (λ i. leave_out (possible? Ring n) f Gs js ≡ goes_on (possible? Ring n) f Gs (get_or js (i - 1) 0 ∷ []) (drop i js)) e (next_kept js 0 left w s h (omega arith))

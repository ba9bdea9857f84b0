-- The judging pass, item by item.
use mathlib.Core.Path.{◌≡◌, refl, sym, ap, ◌∙◌}
use mathlib.Core.List.{List, [], ◌∷◌, ◌++◌}
use Prim.Native.Nat.{ℕ, ◌+◌, ◌-◌, ◌/◌, ◌%◌, ◌≤◌, ◌<◌}
use native.Mathlib.Omega.{arith}
use lib.ListN.{length, take, get_or, set}
use lib.Seq.{slice, length-slice}
use Rattle.spec_orders.specs.CircularOrder.{Restriction}
use Rattle.spec_orders.specs.Tree.{Kind, P, C}
use Rattle.tree_tokens.specs.Tokens.{State, number, Judged, tree, leaf_token, node_token, encode, Tokens, Wrote}
use Rattle.tree_tokens.proofs.Laws.{number_small, number_injective, at_end}
use Rattle.tree_tokens.proofs.Sequences.{plain-length, encode_injective}
use Rattle.tree_tokens.proofs.Writes.{Written, written_same, written_one, written_end}
use Rattle.tree_judge.specs.Judge.{leaf_state, node_state, states, judge}
use Rattle.tree_judge.specs.Automaton.{Run, p0, start, step, runs, code}
use Rattle.tree_judge.proofs.Items.{steady}
use Rattle.tree_judge.proofs.Judged.{judge-length}
use Rattle.tree_judge.proofs.Places.{LeafAt, NodeAt, wrote_same, written_around}

-- A token with another state.
pub relabel_leaf : (s z : State) (b : ℕ) → leaf_token z b ≡ leaf_token s b - leaf_token s b % 8 + number z
unfolding leaf_token
relabel_leaf s z b = omega (arith, number_small s)

pub relabel_node : (s z : State) (k : Kind) (m : ℕ) → node_token z k m ≡ node_token s k m - node_token s k m % 8 + number z
unfolding node_token
relabel_node s z P m = omega (arith, number_small s)
relabel_node s z C m = omega (arith, number_small s)

-- Where the automaton starts, by a node's token.
pub start_c : (z : State) (k : Kind) (m : ℕ) → node_token z k m / 16 % 2 ≡ 1 → 8 ≡ code (start k)
unfolding node_token code
start_c z P m h = absurd (omega (arith, number_small z))
start_c z C m h = refl

pub start_p : (z : State) (k : Kind) (m : ℕ) → (node_token z k m / 16 % 2 ≡ 1 → ⊥) → 0 ≡ code (start k)
unfolding node_token code
start_p z P m h = refl
start_p z C m h = absurd (h (omega (arith, number_small z)))

pub zero_start : 0 ≡ code p0
unfolding code
zero_start = refl

module _ (S : Restriction) where
  -- Items of j are judged, up to those in left: the automaton, from q, is at a run, and an item of the state `last` takes it nowhere.
  pub record Reached (j left : Judged) (q : Run) (from : ℕ) (old out : List ℕ) (at last i : ℕ) : Type 0 where
    pub here : Run
    pub its_code : at ≡ code here
    pub goes_on : runs q (states (judge S (tree j))) ≡ runs here (states (judge S (tree left)))
    pub nowhere : (z : State) → number z ≡ last → step here z ≡ here
    pub wrote : Written (take from old ++ encode (judge S (tree j))) (encode (judge S (tree left))) old out i

  -- Of the items in the places from..to, those before place i are judged.
  pub record Going (x : List ℕ) (from to : ℕ) (old out : List ℕ) (run at last i : ℕ) : Type 0 where
    pub left : Judged
    pub part : slice i to x ≡ encode left
    pub reached : (j : Judged) (q : Run) → slice from to x ≡ encode j → run ≡ code q → Reached j left q from old out at last i

  pub going_start : {x : List ℕ} (from to : ℕ) (old : List ℕ) (run : ℕ) → Tokens (slice from to x) → from ≤ length old → Going x from to old old run run 5 from
  going_start from to old run t h = record {
    left = t.0;
    part = t.1;
    reached = λ j q e r.
        let same = encode_injective j t.0 (sym e ∙ t.1) in
        record {
          here = q;
          its_code = r;
          goes_on = ap (λ (k : Judged). runs q (states (judge S (tree k)))) same;
          nowhere = λ z ez. absurd (omega (arith, number_small z, ez));
          wrote = record {
            done = take from old;
            wrote = wrote_same from old h;
            whole = ap (λ (k : Judged). take from old ++ encode (judge S (tree k))) same;
          };
        };
  }

  -- A leaf's state, a node's state.
  abbrev pub leaf_is : {x : List ℕ} {i to : ℕ} {k : Judged} → LeafAt x i to k → State
  leaf_is n = leaf_state (S n.leaf)

  abbrev pub node_is : {x : List ℕ} {i to : ℕ} {k : Judged} → NodeAt x i to k → State
  node_is n = node_state n.kind (states (judge S (tree n.items)))

  module _ {x : List ℕ} {i to : ℕ} {k : Judged} where
    -- The item takes the automaton on; its tokens and those of the others.
    leaf_goes : (n : LeafAt x i to k) (q : Run) → runs q (states (judge S (tree k))) ≡ runs (step q (leaf_is n)) (states (judge S (tree n.rest)))
    unfolding judge
    leaf_goes n q = ap (λ (j : Judged). runs q (states (judge S (tree j)))) n.is

    leaf_text : (n : LeafAt x i to k) {s : ℕ} → s ≡ number (leaf_is n) → encode (judge S (tree k)) ≡ (get_or x i 0 - get_or x i 0 % 8 + s) ∷ encode (judge S (tree n.rest))
    unfolding judge encode
    leaf_text n e =
        ap (λ (j : Judged). encode (judge S (tree j))) n.is
        ∙ rw (e, n.token) (ap (λ (t : ℕ). t ∷ encode (judge S (tree n.rest))) (relabel_leaf n.state (leaf_is n) n.leaf))

    node_goes : (n : NodeAt x i to k) (q : Run) → runs q (states (judge S (tree k))) ≡ runs (step q (node_is n)) (states (judge S (tree n.rest)))
    unfolding judge
    node_goes n q = ap (λ (j : Judged). runs q (states (judge S (tree j)))) n.is

    node_text : (n : NodeAt x i to k) {s : ℕ} → s ≡ number (node_is n)
        → encode (judge S (tree k)) ≡ (get_or x i 0 - get_or x i 0 % 8 + s) ∷ (encode (judge S (tree n.items)) ++ encode (judge S (tree n.rest)))
    unfolding judge encode
    node_text n e =
        ap (λ (j : Judged). encode (judge S (tree j))) n.is
        ∙ rw (e, n.token, judge-length S (tree n.items), plain-length n.items)
        (ap (λ (t : ℕ). t ∷ (encode (judge S (tree n.items)) ++ encode (judge S (tree n.rest)))) (relabel_node n.state (node_is n) n.kind (length (encode n.items))))

  module _ {x old out : List ℕ} {from to run at last i : ℕ} (g : Going x from to old out run at last i) where
    module _ (n : LeafAt x i to g.left) (room : i < length old) {s : ℕ} (es : s ≡ number (leaf_is n)) where
      -- A leaf is written.
      abbrev token : ℕ
      token = get_or x i 0 - get_or x i 0 % 8 + s

      -- It is of the state `last`; it takes the automaton to another run.
      pub going_same : s ≡ last → Going x from to old (set out i token) run at last (i + 1)
      going_same el = record {
        left = n.rest;
        part = n.after;
        reached = λ j q e r.
            let a = g.reached j q e r in
            record {
              here = a.here;
              its_code = a.its_code;
              goes_on = a.goes_on ∙ leaf_goes n a.here ∙ ap (λ (p : Run). runs p (states (judge S (tree n.rest)))) (a.nowhere (leaf_is n) (sym es ∙ el));
              nowhere = a.nowhere;
              wrote = written_one token (encode (judge S (tree n.rest))) room (leaf_text n es) a.wrote;
            };
      }

      pub going_leaf : {next : ℕ} → ((q : Run) (z : State) → at ≡ code q → s ≡ number z → next ≡ code (step q z)) → s < 2
          → Going x from to old (set out i token) run next s (i + 1)
      going_leaf m w = record {
        left = n.rest;
        part = n.after;
        reached = λ j q e r.
            let a = g.reached j q e r in
            record {
              here = step a.here (leaf_is n);
              its_code = m a.here (leaf_is n) a.its_code es;
              goes_on = a.goes_on ∙ leaf_goes n a.here;
              nowhere = λ z ez. rw (number_injective z (leaf_is n) (ez ∙ es)) (steady (leaf_is n) (rw (← es) w) a.here);
              wrote = written_one token (encode (judge S (tree n.rest))) room (leaf_text n es) a.wrote;
            };
      }

    -- A node: what is written for its items, and its state.
    pub going_node : {new : List ℕ} {s next : ℕ} (n : NodeAt x i to g.left) → i < length old
        → Wrote (take (i + 1) out ++ encode (judge S (tree n.items))) out new (i + 1 + get_or x i 0 / 32) → s ≡ number (node_is n)
        → ((q : Run) (z : State) → at ≡ code q → s ≡ number z → next ≡ code (step q z))
        → Going x from to old (set new i (get_or x i 0 - get_or x i 0 % 8 + s)) run next 5 (i + 1 + get_or x i 0 / 32)
    going_node {s = s} n room w es m = record {
      left = n.rest;
      part = n.after;
      reached = λ j q e r.
          let a = g.reached j q e r in
          record {
            here = step a.here (node_is n);
            its_code = m a.here (node_is n) a.its_code es;
            goes_on = a.goes_on ∙ node_goes n a.here;
            nowhere = λ z ez. absurd (omega (arith, number_small z, ez));
            wrote = written_around (get_or x i 0 - get_or x i 0 % 8 + s) (encode (judge S (tree n.items))) (encode (judge S (tree n.rest))) room (node_text n es) w a.wrote;
          };
    }

    -- None is left.
    pub going_end : i ≡ to → to ≤ length x → (j : Judged) (q : Run) → slice from to x ≡ encode j → run ≡ code q
        → (at ≡ code (runs q (states (judge S (tree j))))) × Wrote (take from old ++ encode (judge S (tree j))) old out to
    unfolding judge encode
    going_end h l j q e r =
        let a = g.reached j q e r in
        let none = at_end g.left g.part (omega (arith, h, length-slice i to x l)) in (
          a.its_code ∙ ap code (sym (a.goes_on ∙ ap (λ (k : Judged). runs a.here (states (judge S (tree k)))) none)),
          rw (← h) (written_end (written_same [] (ap (λ (k : Judged). encode (judge S (tree k))) none) a.wrote)),
        )

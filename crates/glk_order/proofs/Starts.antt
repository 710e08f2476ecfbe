-- The counts and the ready tasks before anything is listed.
use Rattle.std.proofs.Common.{◌≡◌, ◌+◌, ◌<◌, ◌≤◌, ◌∙◌, ◌&&◌, inl, inr, ℕ, Bool, true, false, cond, not, List, length, get_or, set, take, refl, ap, sym, subst, arith, eqb, ltb}
use Rattle.std.specs.List.{count_by}
use Rattle.std.specs.BTreeSet.{BTreeSet}
use Rattle.std.proofs.lemmas.Bool.{eq-eqb, ne_eqb, cases_eq}
use Rattle.std.proofs.lemmas.List.{get_or-set_same, get_or-set_other, length-set, length-take, take_all}
use Rattle.std.proofs.lemmas.List.Sums.{sum_by_more, count_by-le-length}
use Rattle.glk_order.specs.declared.edges.Edge.{Edge}
use Rattle.glk_order.specs.Chains.{no_edge, edge_at}
use Rattle.glk_order.specs.Progress.{is_listed, is_in, is_open, AreOpen}
use Rattle.glk_order.proofs.Counts.{one_if, count_same}

-- how many of the edges are the task's
abbrev pub edges_of : List Edge → ℕ → ℕ
edges_of edges task = count_by (λ e. eqb e.task task) edges

-- The edges of each task among the first n are counted.
pub record AreCounted (count : ℕ) (edges : List Edge) (n : ℕ) (counts : List ℕ) : Type 0 where
  pub size : length counts ≡ count
  pub each : (task : ℕ) → task < count → get_or counts task 0 ≡ edges_of (take n edges) task

pub counted_few : (count : ℕ) (edges : List Edge) (n : ℕ) (counts : List ℕ) (task : ℕ) → AreCounted count edges n counts → task < count → get_or counts task 0 ≤ n
counted_few count edges n counts task h inside =
    let few = count_by-le-length (λ (e : Edge). eqb e.task task) (take n edges) in
    let is = h.each task inside in
    omega (arith, few, is, length-take n edges)

pub more_counted : (count : ℕ) (edges : List Edge) (n : ℕ) (counts now : List ℕ) (own : ℕ) → AreCounted count edges n counts → n < length edges → own ≡ (edge_at edges n).task → own < count
    → now ≡ set counts own (get_or counts own 0 + 1) → AreCounted count edges (n + 1) now
more_counted count edges n counts now own h within own_is inside is =
    let size : length counts ≡ count = h.size in
    record {
      size = ap length is ∙ length-set counts own (get_or counts own 0 + 1) ∙ size;
      each = λ task low.
          let more : edges_of (take (n + 1) edges) task ≡ edges_of (take n edges) task + one_if (eqb (edge_at edges n).task task) = sum_by_more (λ e. cond (eqb e.task task) 1 0) edges n no_edge within in
          let was = h.each task low in
          elim (cases_eq task own) [
            | inl same ↦ (
                let one : one_if (eqb (edge_at edges n).task task) ≡ 1 = ap one_if (eq-eqb _ _ (sym own_is ∙ sym same)) in
                let own_now : get_or now own 0 ≡ get_or counts own 0 + 1 = ap (λ (l : List ℕ). get_or l own 0) is ∙ get_or-set_same counts own (get_or counts own 0 + 1) 0 (omega (arith, size)) in
                let here : get_or now task 0 ≡ get_or counts task 0 + 1 = subst (λ (t : ℕ). get_or now t 0 ≡ get_or counts t 0 + 1) (sym same) own_now in
                omega (arith, more, was, one, here))
            | inr other ↦ (
                let none : one_if (eqb (edge_at edges n).task task) ≡ 0 = ap one_if (ne_eqb _ _ (λ e. other (sym e ∙ sym own_is))) in
                let here : get_or now task 0 ≡ get_or counts task 0 = ap (λ (l : List ℕ). get_or l task 0) is ∙ get_or-set_other counts own task (get_or counts own 0 + 1) 0 other in
                omega (arith, more, was, none, here))
          ];
    }

-- where nothing is listed each edge is open
pub all_counted : (count : ℕ) (edges : List Edge) (n : ℕ) (counts : List ℕ) (listed : List Bool) → AreCounted count edges n counts → length edges ≤ n → ((task : ℕ) → is_listed listed task ≡ false) → AreOpen count edges listed counts
all_counted count edges n counts listed h whole none = record {
  size = h.size;
  each = λ task inside.
      h.each task inside ∙ ap (λ es. edges_of es task) (take_all n edges whole)
      ∙ count_same (λ (e : Edge). eqb e.task task) (is_open listed task) edges (λ e. sym (ap (λ b. eqb e.task task && not b) (none e.target) ∙ and_true (eqb e.task task)));
}
  where
    and_true : (b : Bool) → (b && true) ≡ b
    and_true true = refl
    and_true false = refl

-- the first n tasks are looked at: the set has those without an edge
abbrev pub AreFirst : ℕ → List ℕ → BTreeSet ℕ → Type 0
AreFirst n counts ready = (task : ℕ) → is_in ready task ≡ (ltb task n && eqb (get_or counts task 0) 0)

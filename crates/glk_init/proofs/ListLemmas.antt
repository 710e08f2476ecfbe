-- Lists in parts: what is selected of one element more, and the edges of one task.
use Rattle.std.proofs.Common.{◌≡◌, ◌<◌, ◌+◌, ℕ, suc, List, [], ◌∷◌, ◌++◌, length, get_or, take, Option, Some, None, refl, sym, subst, ap, ◌∙◌, inl, inr, ◌⊎◌, arith}
use Rattle.std.specs.Prelude.{nat_eq}
use Rattle.std.specs.HashMap.{HashMap, get}
use Rattle.std.specs.List.{Contains, cons_option, filter_map}
use Rattle.std.specs.Option.{option_map}
use Rattle.std.proofs.lemmas.List.{take_more}
use Rattle.std.proofs.lemmas.List.Elements.{filter_map-append}
use Rattle.glk_closure.proofs.Derivations.{Contains-cons_cases, Contains-nil}
use Rattle.glk_order.specs.declared.edges.Edge.{Edge}
use Rattle.glk_init.specs.Ranks.{edge_to, rank_edges}

pub filter_map_more : {X Y : Type 0} (h : X → Option Y) (xs : List X) (i : ℕ) (d : X) → i < length xs
    → filter_map h (take (i + 1) xs) ≡ filter_map h (take i xs) ++ cons_option (h (get_or xs i d)) []
filter_map_more h xs i d l = ap (filter_map h) (take_more xs i d l) ∙ filter_map-append h (take i xs) (get_or xs i d ∷ [])

pub rank_edges-append : {S : Type 0} (ranks : HashMap ℕ ℕ S) (rank : ℕ) (xs ys : List ℕ)
    → rank_edges ranks rank (xs ++ ys) ≡ rank_edges ranks rank xs ++ rank_edges ranks rank ys
rank_edges-append ranks rank xs ys = filter_map-append (λ target. option_map (edge_to rank) (get nat_eq ranks target)) xs ys

-- an element of a list behind an optional first one
option_sound : (rank : ℕ) (o : Option ℕ) (rest : List Edge) (e : Edge) → Contains (cons_option (option_map (edge_to rank) o) rest) e
    → ((o ≡ Some e.target) × (e.task ≡ rank)) ⊎ Contains rest e
option_sound rank None rest e c = inr c
option_sound rank (Some target) rest e c =
    elim (Contains-cons_cases (edge_to rank target) rest e c) [
      | inl same ↦ inl (ap (λ (x : Edge). Some x.target) same, sym (ap (λ (x : Edge). x.task) same))
      | inr later ↦ inr later
    ]

later : {X : Type 0} (x : X) (rest : List X) (e : X) → Contains rest e → Contains (x ∷ rest) e
later x rest e c = (suc c.0, omega (arith, c.1), c.2)

option_later : (rank : ℕ) (o : Option ℕ) (rest : List Edge) (e : Edge) → Contains rest e → Contains (cons_option (option_map (edge_to rank) o) rest) e
option_later rank None rest e c = c
option_later rank (Some target) rest e c = later (edge_to rank target) rest e c

option_first : (rank : ℕ) (o : Option ℕ) (rest : List Edge) (j : ℕ) → o ≡ Some j → Contains (cons_option (option_map (edge_to rank) o) rest) (edge_to rank j)
option_first rank o rest j h =
    subst (λ (x : Option ℕ). Contains (cons_option (option_map (edge_to rank) x) rest) (edge_to rank j)) (sym h) (0, omega arith, refl)

-- the edges of one task lead from its rank to the ranks of its targets
pub rank_edges_sound : {S : Type 0} (ranks : HashMap ℕ ℕ S) (rank : ℕ) (xs : List ℕ) (e : Edge) → Contains (rank_edges ranks rank xs) e
    → (e.task ≡ rank) × (t : ℕ) × Contains xs t × (get nat_eq ranks t ≡ Some e.target)
rank_edges_sound ranks rank [] e c = absurd (Contains-nil e c)
rank_edges_sound ranks rank (x ∷ xs) e c =
    elim (option_sound rank (get nat_eq ranks x) (rank_edges ranks rank xs) e c) [
      | inl h ↦ (h.1, x, (0, omega arith, refl), h.0)
      | inr b ↦ let r = rank_edges_sound ranks rank xs e b in (r.0, r.1, later x xs r.1 r.2, r.3)
    ]

pub rank_edges_whole : {S : Type 0} (ranks : HashMap ℕ ℕ S) (rank : ℕ) (xs : List ℕ) (t j : ℕ) → Contains xs t → get nat_eq ranks t ≡ Some j
    → Contains (rank_edges ranks rank xs) (edge_to rank j)
rank_edges_whole ranks rank [] t j c h = absurd (Contains-nil t c)
rank_edges_whole ranks rank (x ∷ xs) t j c h =
    elim (Contains-cons_cases x xs t c) [
      | inl same ↦ option_first rank (get nat_eq ranks x) (rank_edges ranks rank xs) j (ap (get nat_eq ranks) same ∙ h)
      | inr b ↦ option_later rank (get nat_eq ranks x) (rank_edges ranks rank xs) (edge_to rank j) (rank_edges_whole ranks rank xs t j b h)
    ]

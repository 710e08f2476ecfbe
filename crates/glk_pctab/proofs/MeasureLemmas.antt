-- The length of a section by its parts.
use Rattle.std.proofs.Common.{◌≡◌, ◌∙◌, ℕ, zero, suc, ◌+◌, ◌<◌, List, [], ◌∷◌, length, get_or, sym, ap, refl, subst, arith}
use Rattle.std.proofs.lemmas.List.{length-map}
use denote.Ref.{Bor}
use Rattle.glk_pctab.specs.declared.function.Pclntab.{Pclntab as PclntabValue}
use Rattle.glk_pctab.specs.Contents.{clamped}
use Rattle.glk_pctab.specs.Functions.{Pclntab, Function, no_function}
use Rattle.glk_pctab.specs.Measures.{HasFewParts, AreFew}
use Rattle.glk_pctab.specs.Parts.{cutab_by, pclntable_by}
use Rattle.glk_pctab.specs.Section.{section, entries, next_multiple, functab_end}
use Rattle.glk_pctab.specs.Building.{end_from, AllAreSmall, AllHaveUnit}
use Rattle.glk_pctab.specs.Views.{view, texts_of, units_view, functions_view}
use Rattle.glk_pctab.proofs.Assembly.{names_length, files_length, tables_length, length_section, by_at}

few_all : (units : ℕ) (fs : List Function) → ((i : ℕ) → i < length fs → HasFewParts units (get_or fs i no_function))
    → AllAreSmall fs × AllHaveUnit units fs
few_all units [] is = (tt, tt)
few_all units (f ∷ fs) is =
    let later = few_all units fs (λ i low. is (suc i) (omega (arith, low))) in
    let first = is zero (omega arith) in
    ((first.pcdata, first.funcdata, later.0), (first.unit, later.1))

few_view : (tv : PclntabValue) → AreFew (view tv)
    → AllAreSmall (functions_view tv.functions.now) × AllHaveUnit (length (units_view tv.units.now)) (functions_view tv.functions.now)
few_view tv few = few_all (length (units_view tv.units.now)) (functions_view tv.functions.now) few

pub few_small : (tv : PclntabValue) → AreFew (view tv) → AllAreSmall (functions_view tv.functions.now)
few_small tv few = (few_view tv few).0

pub few_units : (tv : PclntabValue) → AreFew (view tv) → AllHaveUnit (length tv.units.now) (functions_view tv.functions.now)
few_units tv few =
    subst (λ (n : ℕ). AllHaveUnit n (functions_view tv.functions.now)) (length-map tv.units.now (λ (u : Bor (List (Bor (List ℕ)))). texts_of u.now))
    (few_view tv few).1

-- a sum of clamped lengths is clamped where one of them is
clamped_sum : (n e f k r : ℕ) → clamped (pclntable_by (clamped n) e (clamped f) (clamped k) + r) ≡ clamped (pclntable_by n e f k + r)
unfolding pclntable_by cutab_by next_multiple
clamped_sum n e f k r = omega arith

pub size_is : (t : Pclntab) (n e f k r size : ℕ) → n ≡ clamped (names_length t) → e ≡ length (entries t) → f ≡ clamped (files_length t) → k ≡ clamped (tables_length t)
    → r ≡ end_from (functab_end t.functions) t.functions → size ≡ clamped (pclntable_by n e f k + r) → size ≡ clamped (length (section t))
size_is t n e f k r size en ee ef ek er is =
    let same : pclntable_by n e f k + r ≡ pclntable_by (clamped (names_length t)) (length (entries t)) (clamped (files_length t)) (clamped (tables_length t)) + end_from (functab_end t.functions) t.functions = rw (en, ee, ef, ek, er) refl in
    is ∙ ap clamped same
    ∙ clamped_sum (names_length t) (length (entries t)) (files_length t) (tables_length t) (end_from (functab_end t.functions) t.functions)
    ∙ ap clamped (ap (λ m. m + end_from (functab_end t.functions) t.functions) (by_at t) ∙ sym (length_section t))

-- Tables of numbers: the kinds by their indices and their names, and what a table has after some lines.
use Rattle.std.proofs.Common.{◌≡◌, ◌<◌, ◌^◌, ◌∙◌, ℕ, zero, suc, Bool, true, false, List, [], ◌∷◌, drop, refl, ap, sym, arith, eqb, eq-eqb, cond, Option, Some, None}
use Rattle.std.specs.List.{find, slice_get}
use Rattle.std.specs.Str.{bytes_eq}
use Rattle.std.specs.Fmt.{decimal}
use Rattle.std.proofs.lemmas.Bool.{false_from_ne_true, eqb-true}
use Rattle.std.proofs.lemmas.Fmt.{decimal_injective}
use Rattle.std.proofs.lemmas.Option.{slice_get_within}
use Rattle.glk_obj.specs.declared.kinds.RelocKind.{RelocKind}
use Rattle.glk_obj.specs.declared.kinds.RelocKind.TheVariants.{Addr, Call, PcRel, AddrOff, MethodOff, TlsLe, UseIface, UseIfaceMethod, UseNamedMethod, UseType, InitOrder, CallInd, Keep, Ignore}
use Rattle.glk_obj.specs.declared.numbers.Numbers.{Numbers}
use Rattle.glk_obj.specs.Numbers.{kinds, index_of, name_of, number_in, kind_of, Gives}

-- each kind is at its index
pub at_index : (kind : RelocKind) → slice_get kinds (index_of kind) ≡ Some kind
at_index Addr = refl
at_index Call = refl
at_index PcRel = refl
at_index AddrOff = refl
at_index MethodOff = refl
at_index TlsLe = refl
at_index UseIface = refl
at_index UseIfaceMethod = refl
at_index UseNamedMethod = refl
at_index UseType = refl
at_index InitOrder = refl
at_index CallInd = refl
at_index Keep = refl
at_index Ignore = refl

pub index_small : (kind : RelocKind) → index_of kind < 14
index_small kind = slice_get_within kinds (index_of kind) kind (at_index kind)

pub index_injective : (a b : RelocKind) → index_of a ≡ index_of b → a ≡ b
index_injective a b same = let e : Some a ≡ Some b = sym (at_index a) ∙ ap (slice_get kinds) same ∙ at_index b in cc

-- a name is that of one kind
named : List ℕ → Option RelocKind
named name = find (λ kind. bytes_eq name (name_of kind)) kinds

named_is : (kind : RelocKind) → named (name_of kind) ≡ Some kind
unfolding named
named_is Addr = refl
named_is Call = refl
named_is PcRel = refl
named_is AddrOff = refl
named_is MethodOff = refl
named_is TlsLe = refl
named_is UseIface = refl
named_is UseIfaceMethod = refl
named_is UseNamedMethod = refl
named_is UseType = refl
named_is InitOrder = refl
named_is CallInd = refl
named_is Keep = refl
named_is Ignore = refl

name_injective : (a b : RelocKind) → name_of a ≡ name_of b → a ≡ b
name_injective a b same = let e : Some a ≡ Some b = sym (named_is a) ∙ ap named same ∙ named_is b in cc

-- a line gives one kind one number
pub one_kind : (line : List ℕ) (a b : RelocKind) (m n : ℕ) → Gives line a m → Gives line b n → a ≡ b
one_kind line a b m n first second = name_injective a b (sym first.name ∙ second.name)

-- and digits spell one number
pub one_spelling : (digits : List ℕ) (m n : ℕ) → digits ≡ decimal m → digits ≡ decimal n → m < 2 ^ 64 → n < 2 ^ 64 → m ≡ n
one_spelling digits m n first second m_small n_small = decimal_injective m n m_small n_small (sym first ∙ second)

pub one_number : (line : List ℕ) (a b : RelocKind) (m n : ℕ) → Gives line a m → Gives line b n → m ≡ n
one_number line a b m n first second =
    let m_small : m < 2 ^ 64 = omega (arith, first.high) in
    let n_small : n < 2 ^ 64 = omega (arith, second.high) in
    one_spelling _ m n first.digits second.digits m_small n_small

-- what is found passes the test, and where nothing is found nothing does
find_passes : {X : Type 0} (p : X → Bool) → (xs : List X) (x : X) → find p xs ≡ Some x → p x ≡ true
find_passes p [] x e = cc
find_passes {X} p (y ∷ xs) x e =
    elim (p y) as (λ b. p y ≡ b → cond b (Some y) (find p xs) ≡ Some x → p x ≡ true) [
      | true ↦ λ is found. let same : y ≡ x = cc in rw (← same) is
      | false ↦ λ is found. find_passes p xs x found
    ] refl e

find_fails : {X : Type 0} (p : X → Bool) → (xs : List X) (i : ℕ) (x : X) → find p xs ≡ None → slice_get xs i ≡ Some x → p x ≡ false
find_fails p [] i x none at = cc
find_fails {X} p (y ∷ xs) zero x none at =
    elim (p y) as (λ b. p y ≡ b → cond b (Some y) (find p xs) ≡ None → p x ≡ false) [
      | true ↦ λ is found. cc
      | false ↦ λ is found. let same : y ≡ x = cc in rw (← same) is
    ] refl none
find_fails {X} p (y ∷ xs) (suc i) x none at =
    elim (p y) as (λ b. cond b (Some y) (find p xs) ≡ None → p x ≡ false) [
      | true ↦ λ found. cc
      | false ↦ λ found. find_fails p xs i x found at
    ] none

-- the kinds from an index on, after one that doesn't pass
pub find_past : {X : Type 0} (p : X → Bool) → (xs : List X) (i : ℕ) (x : X) → slice_get xs i ≡ Some x → p x ≡ false → find p (drop i xs) ≡ find p (drop (suc i) xs)
find_past p [] i x at no_ = cc
find_past {X} p (y ∷ xs) zero x at no_ = let same : y ≡ x = cc in let fails : p y ≡ false = rw same no_ in rw fails refl
find_past p (y ∷ xs) (suc i) x at no_ = find_past p xs i x at no_

pub find_here : {X : Type 0} (p : X → Bool) → (xs : List X) (i : ℕ) (x : X) → slice_get xs i ≡ Some x → p x ≡ true → find p (drop i xs) ≡ Some x
find_here p [] i x at yes_ = cc
find_here {X} p (y ∷ xs) zero x at yes_ = let same : y ≡ x = cc in let passes : p y ≡ true = rw same yes_ in rw passes at
find_here p (y ∷ xs) (suc i) x at yes_ = find_here p xs i x at yes_

pub some_kind : (table : Numbers) (number : ℕ) → 0 < number → kind_of table number ≡ find (λ kind. eqb (number_in table kind) number) kinds
unfolding kind_of
some_kind table number some =
    let no_ : eqb number 0 ≡ false = false_from_ne_true (eqb number 0) (λ e. let zero_ : number ≡ 0 = eqb-true number 0 e in absurd (omega arith)) in
    rw no_ refl

none_zero : (table : Numbers) → kind_of table 0 ≡ None
unfolding kind_of
none_zero table = refl

-- the kind of a number has it, and where there is none no kind has it
pub kind_has : (table : Numbers) (kind : RelocKind) (number : ℕ) → kind_of table number ≡ Some kind → (0 < number) × (number_in table kind ≡ number)
kind_has table kind zero e = let none : kind_of table 0 ≡ None = none_zero table in cc
kind_has table kind (suc n) e =
    let some : 0 < suc n = omega arith in
    (some, eqb-true _ _ (find_passes (λ k. eqb (number_in table k) (suc n)) kinds kind (sym (some_kind table (suc n) some) ∙ e)))

pub no_kind : (table : Numbers) (kind : RelocKind) (number : ℕ) → 0 < number → kind_of table number ≡ None → number_in table kind ≡ number → ⊥
no_kind table kind number some none e =
    let fails : eqb (number_in table kind) number ≡ false = find_fails (λ k. eqb (number_in table k) number) kinds (index_of kind) kind (sym (some_kind table number some) ∙ none) (at_index kind) in
    let passes : eqb (number_in table kind) number ≡ true = eq-eqb _ _ e in
    cc

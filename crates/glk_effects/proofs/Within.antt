-- The numbers of what is read are keys.
use Rattle.std.proofs.Common.{◌≡◌, ◌+◌, ◌<◌, ◌≤◌, ℕ, Bool, true, false, cond, List, [], ◌∷◌, Option, None, Ok, Err, inl, inr, refl, sym, ap, ◌∙◌, subst, arith}
use Rattle.std.specs.Prelude.{ℤ, ◌==◌, ◌&&◌, is_some}
use Rattle.std.specs.List.{All, filter, range_with_len}
use Rattle.std.proofs.lemmas.Bool.{cases_lt}
use Rattle.std.proofs.lemmas.Bool.Decides.{nat_tests}
use Rattle.std.proofs.lemmas.List.{get_or_past}
use Rattle.std.proofs.lemmas.List.Elements.{All-head, All-tail, All-from_get_or}
use Rattle.std.proofs.lemmas.List.FromFn.{length-range_with_len, get_or-range_with_len}
use Rattle.glk_keys.specs.Definitions.{defines, definitions_of, object_definition, chosen_of, made_name_of}
use Rattle.glk_keys.specs.KeyLaws.{key_within}
use Rattle.glk_keys.specs.Keys.{key_id, name_key}
use Rattle.glk_keys.specs.Programs.{Program}
use Rattle.glk_keys.specs.Rows.{rows_of, row_at, row_count, no_row, positions, is_definition}
use Rattle.glk_keys.specs.declared.target.Target.{Target}
use Rattle.glk_keys.specs.declared.target.Target.TheVariants as means
use Rattle.glk_merge.specs.Mergings.{IsTargetKey}
use Rattle.glk_readings.specs.Readings.{Reading, InterfaceMethod, read_then, read_both, read_at, named_method, defined_read, symbol_read, target_read, reference_read, imethod_read, imethod_entry_read, name_read, no_target_rule}
use Rattle.glk_readings.specs.Symbols.{IsWithin}
use Rattle.glk_readings.specs.declared.symbols.TargetSymbol.{TargetSymbol}
use Rattle.glk_readings.specs.declared.symbols.TargetSymbol.TheVariants as symbol
use Rattle.glk_readings.specs.declared.unreadable.Unreadable.{Unreadable}
use Rattle.glk_reach.specs.Chosen.{chosen_row, is_defined, symbols_of, target_symbol}
use Rattle.glk_types.specs.Abi.{abi_imethod}

pub symbol_within : (p : Program) (target : Target) → IsTargetKey p target → IsWithin (row_count p) (target_symbol target)
symbol_within p means.Nothing h = tt
symbol_within p (means.Key k) h = h.row
symbol_within p (means.Missing pkg index) h = tt

-- What has a definition is a key of the program.

and_false : (a : Bool) → (a && false) ≡ false
and_false true = refl
and_false false = refl

other_key : (a t : ℕ) → a < t → (a == t) ≡ false
other_key a t h = grind (arith, nat_tests)

filter_other : (test : ℕ → Bool) (x : ℕ) (xs : List ℕ) → test x ≡ false → filter test xs ≡ [] → filter test (x ∷ xs) ≡ []
filter_other test x xs other rest = rw other rest

none_defines : (p : Program) (t : ℕ) → row_count p ≤ t → (xs : List ℕ) → All (λ q. q < row_count p) xs → filter (defines p t) xs ≡ []
none_defines p t past [] all = refl
none_defines p t past (x ∷ xs) all =
    let here : x < row_count p = All-head (λ q. q < row_count p) x xs all in
    let key : key_id p x < row_count p = key_within p x here in
    let other : (key_id p x == t) ≡ false = other_key (key_id p x) t (omega arith) in
    filter_other (defines p t) x xs (ap (λ b. is_definition (row_at p x) && b) other ∙ and_false (is_definition (row_at p x))) (none_defines p t past xs (All-tail (λ q. q < row_count p) x xs all))

all_positions : (p : Program) → All (λ q. q < row_count p) (positions p)
all_positions p =
    let n = row_count p in
    let long = length-range_with_len 0 n in
    All-from_get_or (λ q. q < n) (range_with_len 0 n) 0 (λ i h. let e = get_or-range_with_len 0 n i 0 (omega arith) in omega arith)

no_definitions : (p : Program) (t : ℕ) → row_count p ≤ t → definitions_of p t ≡ []
unfolding definitions_of
no_definitions p t past = none_defines p t past (positions p) (all_positions p)

no_object_definition : (p : Program) (t : ℕ) → row_count p ≤ t → object_definition p t ≡ None
unfolding object_definition
no_object_definition p t past = rw (no_definitions p t past) refl

no_made_name : (p : Program) (t : ℕ) → row_count p ≤ t → made_name_of p t ≡ None
unfolding name_key
no_made_name p t past = rw (get_or_past (rows_of p) t no_row past) refl

no_chosen : (p : Program) (t : ℕ) → row_count p ≤ t → chosen_of p t ≡ None
unfolding chosen_of
no_chosen p t past = rw (no_made_name p t past, no_object_definition p t past) refl

none_if : (b : Bool) (o : Option ℕ) → o ≡ None → is_some (cond b o None) ≡ false
none_if true o e = rw e refl
none_if false o e = refl

undefined_past : (p : Program) (t : ℕ) → row_count p ≤ t → is_defined p t ≡ false
unfolding chosen_row
undefined_past p t past = none_if (key_id p t == t) (chosen_of p t) (no_chosen p t past)

pub defined_within : (p : Program) (t : ℕ) → is_defined p t ≡ true → t < row_count p
defined_within p t is = elim (cases_lt t (row_count p)) [
  | inl inside ↦ inside
  | inr past ↦ absurd (let e = undefined_past p t past in let bad : true ≡ false = sym is ∙ e in cc)
]

-- The type of a method of an interface has a definition.

pub then_ok : {A B : Type 0} (r : Reading A) (next : A → Reading B) (y : B) → read_then r next ≡ Ok y → (x : A) × (r ≡ Ok x) × (next x ≡ Ok y)
then_ok (Ok x) next y e = (x, refl, e)
then_ok (Err why) next y e = absurd (let bad : Err why ≡ Ok y = e in cc)

second_ok : (a : Reading (List ℕ)) (b : Reading ℕ) (m : InterfaceMethod) → read_both named_method a b ≡ Ok m → b ≡ Ok m.of
second_ok (Ok x) (Ok y) m e =
    let P : Reading InterfaceMethod → ℕ = λ r. (elim r [ Ok z ↦ z.of | Err why ↦ y ]) in
    ap (λ (k : ℕ). let r : Reading ℕ = Ok k in r) (ap P e)
second_ok (Ok x) (Err why) m e = absurd (let bad : Err why ≡ Ok m = e in cc)
second_ok (Err why) (Ok y) m e = absurd (let bad : Err why ≡ Ok m = e in cc)
second_ok (Err why) (Err other) m e = absurd (cc)

test_ok : (b : Bool) (t x : ℕ) (why : Unreadable) → cond b (Ok t) (Err why) ≡ Ok x → (b ≡ true) × (t ≡ x)
test_ok true t x why e = (refl, cc)
test_ok false t x why e = absurd (let bad : Err why ≡ Ok x = e in cc)

defined_ok : (p : Program) (holder : ℕ) (target : TargetSymbol) (x : ℕ) → defined_read (symbols_of p) holder target ≡ Ok x → is_defined p x ≡ true
defined_ok p holder (symbol.Key t) x e =
    let h = test_ok (is_defined p t) t x _ e in
    let P : ℕ → Type 0 = λ k. is_defined p k ≡ true in
    subst P h.1 h.0
defined_ok p holder (symbol.Missing pkg index) x e = absurd (cc)

target_ok : (p : Program) (k offset x : ℕ) → target_read (symbols_of p) k offset ≡ Ok x → is_defined p x ≡ true
unfolding target_read
target_ok p k offset x e =
    let a = then_ok (reference_read (symbols_of p) k offset) (λ reloc. symbol_read (symbols_of p) k offset reloc.target) x e in
    let b = then_ok (read_at k no_target_rule offset a.0.target) (defined_read (symbols_of p) k) x a.2 in
    defined_ok p k b.0 x b.2

pub imethod_within : (p : Program) (t : ℕ) (addend : ℤ) (m : InterfaceMethod) → imethod_read (symbols_of p) t addend ≡ Ok m → m.of < row_count p
unfolding imethod_read
imethod_within p t addend m e =
    let s = symbols_of p in
    let a = then_ok (imethod_entry_read s t addend) (λ at. read_both named_method (name_read s t (at + abi_imethod.name)) (target_read s t (at + abi_imethod.typ))) m e in
    let b = second_ok (name_read s t (a.0 + abi_imethod.name)) (target_read s t (a.0 + abi_imethod.typ)) m a.2 in
    defined_within p m.of (target_ok p t (a.0 + abi_imethod.typ) m.of b)

pub imethod_key : (p q : Program) (t : ℕ) (addend : ℤ) (m : InterfaceMethod) → q ≡ p → Ok m ≡ imethod_read (symbols_of q) t addend → m.of < row_count p
imethod_key p q t addend m same e =
    let P : Program → Type 0 = λ x. imethod_read (symbols_of x) t addend ≡ Ok m in
    imethod_within p t addend m (subst P same (sym e))

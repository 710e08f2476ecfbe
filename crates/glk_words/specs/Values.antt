-- The values that flags take.
use Rattle.std.specs.Prelude.{◌==◌, ◌^◌, ℕ, List, [], ◌∷◌, Bool, true, false, ◌&&◌, if◌then◌else◌, length, codes, Option, Some, None, nat_lt, nat_le}
use Rattle.std.specs.Str.{bytes_eq, all_ascii_digits}
use Rattle.std.specs.Str.Parse.{digits_value}
use Rattle.glk_words.specs.declared.values.SymbolOrder.{SymbolOrder}
use Rattle.glk_words.specs.declared.values.SymbolOrder.TheVariants as by

-- the value of a key in a table
abbrev pub found_in : {X : Type 0} → List (List ℕ × X) → List ℕ → Option X
found_in [] key = None
found_in (row ∷ rows) key = if bytes_eq key row.0 then Some row.1 else found_in rows key

-- the words for true and false, as Go's `strconv.ParseBool` has them
abbrev pub truths : List (List ℕ × Bool)
truths =
    (codes "1", true) ∷ (codes "t", true) ∷ (codes "T", true)
    ∷ (codes "TRUE", true) ∷ (codes "true", true) ∷ (codes "True", true)
    ∷ (codes "0", false) ∷ (codes "f", false) ∷ (codes "F", false)
    ∷ (codes "FALSE", false) ∷ (codes "false", false) ∷ (codes "False", false) ∷ []

unfoldable pub truth_of : List ℕ → Option Bool
truth_of text = found_in truths text

-- a number has one spelling: decimal digits without a sign, and no zero before others
unfoldable pub is_spelled : List ℕ → Bool
is_spelled [] = false
is_spelled (digit ∷ digits) = if digit == 48 && nat_lt 0 (length digits) then false else all_ascii_digits (digit ∷ digits)

-- the number of a spelling, where it is below 2^64
unfoldable pub number_of : List ℕ → Option ℕ
number_of text = if is_spelled text && nat_lt (digits_value 10 text) (2 ^ 64) then Some (digits_value 10 text) else None

-- a number from 1 to a bound
abbrev pub is_up_to : ℕ → Option ℕ → Bool
is_up_to most None = false
is_up_to most (Some n) = nat_le 1 n && nat_le n most

abbrev pub worker_limit : ℕ
worker_limit = 64

-- the orders of symbols that nm knows
abbrev pub sorts : List (List ℕ × SymbolOrder)
sorts =
    (codes "address", by.Address) ∷ (codes "name", by.Name) ∷ (codes "none", by.Table) ∷ (codes "size", by.Size) ∷ []

abbrev pub is_some : {X : Type 0} → Option X → Bool
is_some None = false
is_some (Some x) = true

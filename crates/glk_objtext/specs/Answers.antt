-- Meanings that a rule may refuse, and how a call's answer agrees with one.
use Rattle.std.specs.Prelude.{◌≡◌, ℕ, Bool, true, false, Option, Some, None, Result, Ok, Err}
use Rattle.glk_base.specs.declared.fault.Fault.{Fault}
use Rattle.glk_base.specs.declared.fault.Fault.TheVariants.{Bad, OutOfMemory}

-- the rules of lines that a line can break, by their numbers
abbrev pub unknown_word : ℕ
unknown_word = 1

abbrev pub misplaced_object : ℕ
misplaced_object = 2

abbrev pub out_of_order : ℕ
out_of_order = 3

abbrev pub field_count : ℕ
field_count = 4

abbrev pub bad_number : ℕ
bad_number = 5

abbrev pub bad_string : ℕ
bad_string = 6

abbrev pub misplaced_part : ℕ
misplaced_part = 7

abbrev pub hash_length : ℕ
hash_length = 8

-- the second meaning where the first is there, else the first one's rule
infixl 10 ◌>>=◌
abbrev pub ◌>>=◌ : {A B : Type 0} → Result A ℕ → (A → Result B ℕ) → Result B ℕ
Ok x >>= f = f x
Err rule >>= f = Err rule

-- a condition that else breaks the rule
abbrev pub demand : ℕ → Bool → Result Bool ℕ
demand rule true = Ok true
demand rule false = Err rule

-- a meaning that may lack
abbrev pub or_rule : {A : Type 0} → ℕ → Option A → Result A ℕ
or_rule rule (Some x) = Ok x
or_rule rule None = Err rule

-- a call answers this meaning or this refusal, or it runs out of memory
abbrev pub Gives : {A E : Type 0} → Result A E → Result A (Fault E) → Type 0
Gives meant (Ok value) = meant ≡ Ok value
Gives meant (Err (Bad e)) = meant ≡ Err e
Gives meant (Err OutOfMemory) = Unit {0}

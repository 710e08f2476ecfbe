-- The methods of a type that was read.
use Rattle.std.specs.Prelude.{◌≡◌, ◌<◌, ◌≤◌, ℕ, List}
use Rattle.glk_types.specs.declared.entries.Methods.{Methods}
use Rattle.glk_types.specs.Types.{method_count, methods_offset, entry_offset}

-- how many there are
abbrev pub count_of : Methods → ℕ
count_of methods = methods.count

-- where the entry of the first is
abbrev pub start_of : Methods → ℕ
start_of methods = methods.start

-- they are those that the type's data say
abbrev pub AreMethodsOf : List ℕ → Methods → Type 0
AreMethodsOf b methods = (count_of methods ≡ method_count b) × (start_of methods ≡ methods_offset b)

-- the entries of all of them are inside n bytes of data
abbrev pub AreInside : ℕ → Methods → Type 0
AreInside n methods = 0 < count_of methods → entry_offset (start_of methods) (count_of methods) ≤ n

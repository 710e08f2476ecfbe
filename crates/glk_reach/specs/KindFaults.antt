-- The rules J1 to J5 on the type, the data and the size of a kept symbol.
use Rattle.std.specs.Prelude.{ℕ, ◌==◌, ◌&&◌, ◌||◌, not, nat_le, Bool, length, Option, Some, None, is_some, if◌then◌else◌}
use Rattle.std.specs.List.{list_any}
use Rattle.std.specs.Option.{option_or}
use Rattle.glk_obj.specs.Symbols.{text_type, rodata_type, bss_type, noptrbss_type}
use Rattle.glk_keys.specs.Definitions.{made_name_of}
use Rattle.glk_keys.specs.Programs.{Program}
use Rattle.glk_reach.specs.Chosen.{symbol_of, content_of, is_listed_type}
use Rattle.glk_reach.specs.Graphs.{entry_keys}

-- the number of its type
abbrev pub symbol_type : Program → ℕ → ℕ
symbol_type p k = (symbol_of p k).kind

-- zeros alone
abbrev pub is_zeros : Program → ℕ → Bool
is_zeros p k = (symbol_type p k == bss_type) || (symbol_type p k == noptrbss_type)

abbrev pub is_entry : Program → ℕ → Bool
is_entry p k = list_any (λ entry. entry == k) (entry_keys p)

-- J1: its type is one that has a section, from functions to zeros without pointers; a made name has none.
abbrev pub has_no_section : Program → ℕ → Bool
has_no_section p k =
    not (is_some (made_name_of p k))
    && not (nat_le text_type (symbol_type p k) && nat_le (symbol_type p k) noptrbss_type)

-- J2: zeros have no data.
abbrev pub is_zeros_with_data : Program → ℕ → Bool
is_zeros_with_data p k = is_zeros p k && not (length (content_of p k) == 0)

-- J3: a function has as many bytes of data as its size says.
abbrev pub is_function_of_other_size : Program → ℕ → Bool
is_function_of_other_size p k =
    (symbol_type p k == text_type) && not (length (content_of p k) == (symbol_of p k).size)

-- J4: an entry is a function.
abbrev pub is_entry_of_other_type : Program → ℕ → Bool
is_entry_of_other_type p k = is_entry p k && not (symbol_type p k == text_type)

-- J5: a type that is listed in the image is read-only data.
abbrev pub is_listed_type_elsewhere : Program → ℕ → Bool
is_listed_type_elsewhere p k = is_listed_type p k && not (symbol_type p k == rodata_type)

-- the rule, where it is broken
abbrev pub rule_if : ℕ → Bool → Option ℕ
rule_if rule broken = if broken then Some rule else None

-- the first of these rules that symbol k breaks
unfoldable pub kind_fault : Program → ℕ → Option ℕ
kind_fault p k =
    option_or (rule_if 1 (has_no_section p k))
    (option_or (rule_if 2 (is_zeros_with_data p k))
    (option_or (rule_if 3 (is_function_of_other_size p k))
    (option_or (rule_if 4 (is_entry_of_other_type p k))
    (rule_if 5 (is_listed_type_elsewhere p k)))))

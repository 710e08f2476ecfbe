-- The code's rows and keys as numbers.
use Rattle.std.specs.Prelude.{ℕ, Option}
use Rattle.std.specs.Option.{option_map}
use Rattle.glk_base.specs.declared.ids.KeyId.{KeyId}
use Rattle.glk_base.specs.declared.ids.SymId.{SymId}

abbrev pub key_numbers : Option KeyId → Option ℕ
key_numbers key = option_map (λ (k : KeyId). k.0) key

abbrev pub row_numbers : Option SymId → Option ℕ
row_numbers id = option_map (λ (r : SymId). r.0) id

-- References to symbols: a package, a colon, an index.
use Rattle.std.specs.Prelude.{◌==◌, ◌+◌, ◌^◌, nat_lt, ℕ, List, ◌∷◌, ◌++◌, if◌then◌else◌, Result, Ok, Err, length, take, drop, codes}
use Rattle.std.specs.List.{position_or_len}
use Rattle.std.specs.Str.{bytes_eq}
use Rattle.glk_obj.specs.Packages.{nil_package, none_package, hashed64_package, hashed_package, builtin_package, self_package}
use Rattle.glk_obj.specs.declared.records.SymRef.{SymRef}
use Rattle.glk_objtext.specs.Answers.{bad_number, ◌>>=◌}
use Rattle.glk_objtext.specs.Numbers.{number_of, number_text}

-- what parts a package from an index
abbrev pub colon : ℕ
colon = 58

-- the spellings of the packages that are no entry of an object's list
abbrev pub nil_word : List ℕ
nil_word = codes "nil"

abbrev pub none_word : List ℕ
none_word = codes "none"

abbrev pub hashed64_word : List ℕ
hashed64_word = codes "h64"

abbrev pub hashed_word : List ℕ
hashed_word = codes "h"

abbrev pub builtin_word : List ℕ
builtin_word = codes "builtin"

abbrev pub self_word : List ℕ
self_word = codes "self"

-- the number of an entry of the object's list: from 1 up to the special numbers
abbrev pub entry_of : List ℕ → Result ℕ ℕ
entry_of name = number_of self_package name >>= (λ n. if n == 0 then Err bad_number else Ok n)

-- the package that is spelled so
unfoldable pub package_of : List ℕ → Result ℕ ℕ
package_of name =
    if bytes_eq name nil_word then Ok nil_package
    else if bytes_eq name none_word then Ok none_package
    else if bytes_eq name hashed64_word then Ok hashed64_package
    else if bytes_eq name hashed_word then Ok hashed_package
    else if bytes_eq name builtin_word then Ok builtin_package
    else if bytes_eq name self_word then Ok self_package
    else entry_of name

-- the index of a symbol
abbrev pub index_limit : ℕ
index_limit = 2 ^ 32

-- the parts around this index of a field
abbrev pub target_at : ℕ → List ℕ → Result SymRef ℕ
target_at i field = do
  pkg ← package_of (take i field)
  sym ← number_of index_limit (drop (i + 1) field)
  Ok (record { pkg = pkg; sym = sym })

-- the reference that a field spells; its first colon parts it
unfoldable pub target_of : List ℕ → Result SymRef ℕ
target_of field =
    let i = position_or_len (λ b. b == colon) field in
    if nat_lt i (length field) then target_at i field else Err bad_number

-- the one spelling of a package
unfoldable pub package_text : ℕ → List ℕ
package_text pkg =
    if pkg == nil_package then nil_word
    else if pkg == none_package then none_word
    else if pkg == hashed64_package then hashed64_word
    else if pkg == hashed_package then hashed_word
    else if pkg == builtin_package then builtin_word
    else if pkg == self_package then self_word
    else number_text pkg

-- the one spelling of a reference
unfoldable pub target_text : SymRef → List ℕ
target_text r = package_text r.pkg ++ colon ∷ number_text r.sym

-- What makes rows one symbol.
use Rattle.std.specs.Prelude.{ℕ, ◌==◌, ◌||◌, ◌&&◌, Bool, false, List, map, length, Option, if◌then◌else◌}
use Rattle.std.specs.List.{position, position_or_len}
use Rattle.std.specs.Str.{bytes_eq}
use Rattle.glk_obj.specs.Records.{Symbol}
use Rattle.glk_obj.specs.Symbols.{abi_static}
use Rattle.glk_keys.specs.Programs.{Program}
use Rattle.glk_keys.specs.Rows.{Row, Origin, in_symdef, in_hashed64def, in_hasheddef, in_nonpkgdef, in_nonpkgref, own, rows_of, row_at}

-- Rows with one key are one symbol: with one short hash, with one long hash, or with one name and one ABI. A row that is known to its
-- object alone is a symbol of its own.
pub data Key : Type 0 where
  short : (hash : List ℕ) → Key
  long : (hash : List ℕ) → Key
  of_object : (object local : ℕ) → Key
  named : (name : List ℕ) (abi : ℕ) → Key

-- the key of a row without a hash, which is local symbol i of object n: a static symbol, and one without a name, is of its object alone
unfoldable pub name_key : ℕ → ℕ → Symbol → Key
name_key n i s = if (s.abi == abi_static) || (length s.name == 0) then of_object n i else named s.name s.abi

abbrev pub key_from : Origin → ℕ → ℕ → Symbol → Key
key_from (in_hashed64def hash) n i s = short hash
key_from (in_hasheddef hash) n i s = long hash
key_from in_symdef n i s = name_key n i s
key_from in_nonpkgdef n i s = name_key n i s
key_from in_nonpkgref n i s = name_key n i s
key_from own n i s = name_key n i s

-- the key of a row
abbrev pub row_key : Row → Key
row_key row = key_from row.origin row.object row.local row.symbol

-- two keys are equal
abbrev pub same_key : Key → Key → Bool
same_key (short a) (short b) = bytes_eq a b
same_key (short a) (long b) = false
same_key (short a) (of_object p j) = false
same_key (short a) (named b n) = false
same_key (long a) (short b) = false
same_key (long a) (long b) = bytes_eq a b
same_key (long a) (of_object p j) = false
same_key (long a) (named b n) = false
same_key (of_object o i) (short b) = false
same_key (of_object o i) (long b) = false
same_key (of_object o i) (of_object p j) = (o == p) && (i == j)
same_key (of_object o i) (named b n) = false
same_key (named a m) (short b) = false
same_key (named a m) (long b) = false
same_key (named a m) (of_object p j) = false
same_key (named a m) (named b n) = (m == n) && bytes_eq a b

-- the keys of all rows
abbrev pub row_keys : Program → List Key
row_keys p = map row_key (rows_of p)

-- The number of a row's key: the least row that has it.
abbrev pub key_id : Program → ℕ → ℕ
key_id p r = position_or_len (same_key (row_key (row_at p r))) (row_keys p)

-- the number of the key of this name and ABI, if a row has it
unfoldable pub find_key : Program → List ℕ → ℕ → Option ℕ
find_key p name abi = position (same_key (named name abi)) (row_keys p)

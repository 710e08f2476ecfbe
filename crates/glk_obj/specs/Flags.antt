-- The bits of a symbol's two flag bytes, by their numbers, and what each says of the symbol.
use Rattle.std.specs.Prelude.{◌^◌, ◌==◌, ℕ, Bool, not, bit_and}
use Rattle.glk_obj.specs.Records.{Symbol, RefFlag}

-- bit k of a byte is set
abbrev pub has_bit : ℕ → ℕ → Bool
has_bit n k = not (bit_and n (2 ^ k) == 0)

-- The bits of the first byte.

abbrev pub dupok_bit : ℕ
dupok_bit = 0

abbrev pub local_bit : ℕ
local_bit = 1

abbrev pub typelink_bit : ℕ
typelink_bit = 2

abbrev pub leaf_bit : ℕ
leaf_bit = 3

abbrev pub nosplit_bit : ℕ
nosplit_bit = 4

abbrev pub reflectmethod_bit : ℕ
reflectmethod_bit = 5

abbrev pub gotype_bit : ℕ
gotype_bit = 6

-- The bits of the second byte.

abbrev pub used_in_iface_bit : ℕ
used_in_iface_bit = 0

abbrev pub itab_bit : ℕ
itab_bit = 1

abbrev pub dict_bit : ℕ
dict_bit = 2

abbrev pub pkginit_bit : ℕ
pkginit_bit = 3

-- other definitions of the key may be there: one of them is chosen
abbrev pub is_dupok : Symbol → Bool
is_dupok s = has_bit s.flag dupok_bit

-- only its own object refers to it
abbrev pub is_local : Symbol → Bool
is_local s = has_bit s.flag local_bit

-- a type that is listed in the image
abbrev pub is_typelink : Symbol → Bool
is_typelink s = has_bit s.flag typelink_bit

-- a function that calls none
abbrev pub is_leaf : Symbol → Bool
is_leaf s = has_bit s.flag leaf_bit

-- a function that does not grow the stack
abbrev pub is_nosplit : Symbol → Bool
is_nosplit s = has_bit s.flag nosplit_bit

-- a function that calls methods by reflection
abbrev pub is_reflectmethod : Symbol → Bool
is_reflectmethod s = has_bit s.flag reflectmethod_bit

-- the data of a Go type
abbrev pub is_gotype : Symbol → Bool
is_gotype s = has_bit s.flag gotype_bit

-- a type that is turned into an interface
abbrev pub is_used_in_iface : Symbol → Bool
is_used_in_iface s = has_bit s.flag2 used_in_iface_bit

-- a table of an interface's methods
abbrev pub is_itab : Symbol → Bool
is_itab s = has_bit s.flag2 itab_bit

-- a dictionary of a generic function
abbrev pub is_dict : Symbol → Bool
is_dict s = has_bit s.flag2 dict_bit

-- a package's initialization
abbrev pub is_pkginit : Symbol → Bool
is_pkginit s = has_bit s.flag2 pkginit_bit

-- the symbol of another package is a type that is turned into an interface
abbrev pub marks_used_in_iface : RefFlag → Bool
marks_used_in_iface r = has_bit r.flag2 used_in_iface_bit

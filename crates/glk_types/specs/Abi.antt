-- Where the parts of type data are, as Go's internal/abi lays them out on 64 bits. Each offset is
-- counted in bytes from the start of its own part; names are Go's.
use Rattle.std.specs.Prelude.{ℕ, ◌==◌, if◌then◌else◌}

pub record Type_ : Type 0 where
  pub size_ : ℕ
  pub ptr_bytes : ℕ
  pub hash : ℕ
  pub tflag : ℕ
  pub align_ : ℕ
  pub field_align_ : ℕ
  pub kind_ : ℕ
  pub equal : ℕ
  pub gc_data : ℕ
  pub str : ℕ
  pub ptr_to_this : ℕ
  pub bytes : ℕ

-- what the data of each type begin with
abbrev pub abi_type : Type_
abi_type = record {
  size_ = 0;
  ptr_bytes = 8;
  hash = 16;
  tflag = 20;
  align_ = 21;
  field_align_ = 22;
  kind_ = 23;
  equal = 24;
  gc_data = 32;
  str = 40;
  ptr_to_this = 44;
  bytes = 48;
}

pub record UncommonType : Type 0 where
  pub pkg_path : ℕ
  pub mcount : ℕ
  pub xcount : ℕ
  pub moff : ℕ
  pub bytes : ℕ

-- the uncommon part: how many methods there are, and how far from its start their entries are
abbrev pub abi_uncommon_type : UncommonType
abi_uncommon_type = record {
  pkg_path = 0;
  mcount = 4;
  xcount = 6;
  moff = 8;
  bytes = 16;
}

pub record Method : Type 0 where
  pub name : ℕ
  pub mtyp : ℕ
  pub ifn : ℕ
  pub tfn : ℕ
  pub bytes : ℕ

-- the entry of a method: its name, its type, and the code for calls through an interface and for others
abbrev pub abi_method : Method
abi_method = record {
  name = 0;
  mtyp = 4;
  ifn = 8;
  tfn = 12;
  bytes = 16;
}

pub record Imethod : Type 0 where
  pub name : ℕ
  pub typ : ℕ
  pub bytes : ℕ

-- the entry of a method of an interface
abbrev pub abi_imethod : Imethod
abi_imethod = record {
  name = 0;
  typ = 4;
  bytes = 8;
}

pub record Itab : Type 0 where
  pub inter : ℕ
  pub typ : ℕ

-- the table by which a type's methods are called through an interface
abbrev pub abi_itab : Itab
abi_itab = record {
  inter = 0;
  typ = 8;
}

pub record Kind : Type 0 where
  pub array : ℕ
  pub chan : ℕ
  pub func : ℕ
  pub interface : ℕ
  pub map : ℕ
  pub pointer : ℕ
  pub slice : ℕ
  pub string : ℕ
  pub struct : ℕ

-- the kinds of types that are made of others, and strings
abbrev pub abi_kind : Kind
abi_kind = record {
  array = 17;
  chan = 18;
  func = 19;
  interface = 20;
  map = 21;
  pointer = 22;
  slice = 23;
  string = 24;
  struct = 25;
}

-- the low five bits of the byte kind_; bit 6 marks a program for the collector
abbrev pub kind_mask : ℕ
kind_mask = 31

-- bits of the byte tflag: an uncommon part follows; the first byte of the string is a star that is not the type's
abbrev pub uncommon_bit : ℕ
uncommon_bit = 0

abbrev pub extra_star_bit : ℕ
extra_star_bit = 1

-- how many bytes of its own a kind has between abi.Type and the uncommon part
unfoldable pub own_bytes : ℕ → ℕ
own_bytes kind =
    if kind == abi_kind.array then 24
    else (if kind == abi_kind.chan then 16
    else (if kind == abi_kind.func then 8
    else (if kind == abi_kind.map then 40
    else (if kind == abi_kind.pointer then 8
    else (if kind == abi_kind.slice then 8
    else (if kind == abi_kind.struct then 32
    else 0))))))

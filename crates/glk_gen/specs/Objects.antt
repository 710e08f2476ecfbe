-- The objects of a world, as descriptions. What is not named here is 0 or empty.
use Rattle.std.specs.Prelude.{ℕ, pos, ◌+◌, ◌*◌, ◌/◌, ◌%◌, ◌^◌, ◌==◌, if◌then◌else◌, List, [], ◌∷◌, map, replicate, codes, ◌++◌, decimal}
use Rattle.std.specs.List.{position_or_len}
use Rattle.glk_obj.specs.Packages.{none_package, self_package}
use Rattle.glk_obj.specs.Symbols.{abi0, abi_internal, text_type, rodata_type}
use Rattle.glk_obj.specs.Flags.{dupok_bit}
use Rattle.glk_obj.specs.Numbers.{standard_number}
use Rattle.glk_obj.specs.declared.kinds.RelocKind.{RelocKind}
use Rattle.glk_obj.specs.declared.kinds.RelocKind.TheVariants.{Call, PcRel}
use Rattle.glk_obj.specs.declared.records.SymRef.{SymRef}
use Rattle.glk_obj.specs.declared.records.RelocRec.{RelocRec}
use Rattle.glk_objdesc.specs.declared.desc.AutolibDesc.{AutolibDesc}
use Rattle.glk_objdesc.specs.declared.desc.SymDesc.{SymDesc}
use Rattle.glk_objdesc.specs.declared.desc.DefDesc.{DefDesc}
use Rattle.glk_objdesc.specs.declared.desc.ObjDesc.{ObjDesc}
use Rattle.glk_gen.specs.Packages.{package_of, index_in_package, functions, packages, package_path, function_name}
use Rattle.glk_gen.specs.Calls.{first_callee, second_callee, imports}

-- References and relocations.

-- the number by which package k refers to package p: `self` to its own, else the place in PkgIdx, from 1 on
abbrev pub package_number : ℕ → List ℕ → ℕ → ℕ
package_number k imported p = if p == k then self_package else position_or_len (λ q. q == p) imported + 1

-- package k's reference to function i
abbrev pub function_ref : ℕ → List ℕ → ℕ → SymRef
function_ref k imported i = record { pkg = package_number k imported (package_of i); sym = index_in_package i }

-- the reference to the first symbol of Nonpkgdef
abbrev pub data_ref : SymRef
data_ref = record { pkg = none_package; sym = 0 }

abbrev pub field_size : ℕ
field_size = 4

abbrev pub relocation : ℕ → RelocKind → SymRef → RelocRec
relocation at kind target = record { off = pos at; size = field_size; kind = standard_number kind; add = pos 0; target = target }

-- where the fields of a function are
abbrev pub first_call_offset : ℕ
first_call_offset = 1

abbrev pub second_call_offset : ℕ
second_call_offset = 6

abbrev pub data_offset : ℕ
data_offset = 13

-- Functions: 32 bytes of code, of which each is a `nop`.

abbrev pub function_size : ℕ
function_size = 32

abbrev pub nop : ℕ
nop = 0x90

unfoldable pub code : List ℕ
code = replicate function_size nop

abbrev pub function_symbol : List ℕ → ℕ → SymDesc
function_symbol name abi = record { name = name; abi = abi; kind = text_type; flag = 0; flag2 = 0; size = function_size; align = 0 }

abbrev pub function_with : SymDesc → List RelocRec → DefDesc
function_with symbol relocs = record { sym = symbol; hash = []; content = code; relocs = relocs; auxes = [] }

-- function i of package k, which calls these two
abbrev pub function_calling : ℕ → List ℕ → ℕ → ℕ → ℕ → DefDesc
function_calling k imported i first second =
    function_with (function_symbol (function_name k i) abi_internal)
    (relocation first_call_offset Call (function_ref k imported first)
    ∷ relocation second_call_offset Call (function_ref k imported second)
    ∷ relocation data_offset PcRel data_ref
    ∷ [])

unfoldable pub function_of : ℕ → ℕ → ℕ → ℕ → DefDesc
function_of seed n k i = function_calling k (imports seed n k) i (first_callee seed n i) (second_callee seed n i)

-- Data without a package. There are 16 names, so several packages define one; the sizes of its definitions differ.

abbrev pub data_names : ℕ
data_names = 16

abbrev pub data_sizes : ℕ
data_sizes = 4

abbrev pub data_align : ℕ
data_align = 8

abbrev pub data_byte : ℕ
data_byte = 0x64

abbrev pub data_name : ℕ → List ℕ
data_name k = codes "gen.d" ++ decimal (k % data_names)

abbrev pub data_size : ℕ → ℕ
data_size k = 8 + 8 * (k / data_names % data_sizes)

abbrev pub data_symbol : ℕ → SymDesc
data_symbol k = record { name = data_name k; abi = abi0; kind = rodata_type; flag = 2 ^ dupok_bit; flag2 = 0; size = data_size k; align = data_align }

unfoldable pub data_of : ℕ → DefDesc
data_of k = record { sym = data_symbol k; hash = []; content = replicate (data_size k) data_byte; relocs = []; auxes = [] }

-- Objects.

abbrev pub no_fingerprint : List ℕ
no_fingerprint = replicate 8 0

-- an object that was compiled against these packages, and has these in PkgIdx, and these definitions
abbrev pub object_with : List AutolibDesc → List (List ℕ) → List DefDesc → List DefDesc → ObjDesc
object_with autolib pkgs defs ndefs = record {
  flags = 0;
  fingerprint = no_fingerprint;
  autolib = autolib;
  pkgs = pkgs;
  files = [];
  defs = defs;
  hash64 = [];
  hashed = [];
  ndefs = ndefs;
  refs = [];
  ref_flags = [];
  ref_names = [];
}

-- package k
unfoldable pub package_object : ℕ → ℕ → ℕ → ObjDesc
package_object seed n k =
    object_with [] (map package_path (imports seed n k)) (map (function_of seed n k) (functions n k)) (data_of k ∷ [])

-- The main package: the entry of the program, which calls function 0. It was compiled against all others, without
-- their fingerprints.

abbrev pub entry_name : List ℕ
entry_name = codes "_rt0_amd64_linux"

-- function 0 by the package that is number 1 of PkgIdx
abbrev pub function_zero : SymRef
function_zero = record { pkg = 1; sym = 0 }

unfoldable pub entry : DefDesc
entry = function_with (function_symbol entry_name abi0) (relocation first_call_offset Call function_zero ∷ [])

abbrev pub autolib_of : ℕ → AutolibDesc
autolib_of k = record { path = package_path k; fingerprint = no_fingerprint }

unfoldable pub main_object : ℕ → ObjDesc
main_object n = object_with (map autolib_of (packages n)) (package_path 0 ∷ []) (entry ∷ []) []

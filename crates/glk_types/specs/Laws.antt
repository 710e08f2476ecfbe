-- That the faults of readings are the broken rules of least number, and that the code's constants are the layout's.
use Rattle.std.specs.Prelude.{◌≡◌, ℕ, ℤ, List}
use Rattle.glk_types.specs.declared.abi.TheConstants.{TYPE_TFLAG, TYPE_KIND, TYPE_STR, TYPE_BYTES, UNCOMMON_MCOUNT, UNCOMMON_MOFF, UNCOMMON_BYTES, METHOD_NAME, METHOD_MTYP, METHOD_IFN, METHOD_TFN, METHOD_BYTES, IMETHOD_NAME, IMETHOD_TYP, IMETHOD_BYTES, ITAB_TYP, KIND_MASK, KIND_ARRAY, KIND_CHAN, KIND_FUNC, KIND_INTERFACE, KIND_MAP, KIND_POINTER, KIND_SLICE, KIND_STRING, KIND_STRUCT}
use Rattle.glk_types.specs.Abi.{abi_type, abi_uncommon_type, abi_method, abi_imethod, abi_itab, abi_kind, kind_mask}
use Rattle.glk_types.specs.Faults.{header_fault, methods_fault, imethod_fault}
use Rattle.glk_types.specs.Rules.{IsAnswerBy, HeaderAsks, HeaderReports, MethodsAsk, MethodsReport, ImethodAsks, ImethodReports}

abbrev pub HeaderFaultsAreOfRules : Type 0
HeaderFaultsAreOfRules = (b : List ℕ) → IsAnswerBy (HeaderAsks b) (HeaderReports b) (header_fault b)

abbrev pub MethodsFaultsAreOfRules : Type 0
MethodsFaultsAreOfRules =
    (b offsets : List ℕ) → IsAnswerBy (MethodsAsk b offsets) (MethodsReport b offsets) (methods_fault b offsets)

abbrev pub ImethodFaultsAreOfRules : Type 0
ImethodFaultsAreOfRules =
    (b : List ℕ) (addend : ℤ) → IsAnswerBy (ImethodAsks b addend) (ImethodReports b addend) (imethod_fault b addend)

abbrev pub IsTypeLayout : Type 0
IsTypeLayout =
    (TYPE_TFLAG ≡ abi_type.tflag) × (TYPE_KIND ≡ abi_type.kind_) × (TYPE_STR ≡ abi_type.str) × (TYPE_BYTES ≡ abi_type.bytes)

abbrev pub IsUncommonLayout : Type 0
IsUncommonLayout =
    (UNCOMMON_MCOUNT ≡ abi_uncommon_type.mcount) × (UNCOMMON_MOFF ≡ abi_uncommon_type.moff)
    × (UNCOMMON_BYTES ≡ abi_uncommon_type.bytes)

abbrev pub IsMethodLayout : Type 0
IsMethodLayout =
    (METHOD_NAME ≡ abi_method.name) × (METHOD_MTYP ≡ abi_method.mtyp) × (METHOD_IFN ≡ abi_method.ifn)
    × (METHOD_TFN ≡ abi_method.tfn) × (METHOD_BYTES ≡ abi_method.bytes)

abbrev pub IsInterfaceLayout : Type 0
IsInterfaceLayout =
    (IMETHOD_NAME ≡ abi_imethod.name) × (IMETHOD_TYP ≡ abi_imethod.typ) × (IMETHOD_BYTES ≡ abi_imethod.bytes)
    × (ITAB_TYP ≡ abi_itab.typ)

abbrev pub AreKinds : Type 0
AreKinds =
    (KIND_MASK ≡ kind_mask) × (KIND_ARRAY ≡ abi_kind.array) × (KIND_CHAN ≡ abi_kind.chan) × (KIND_FUNC ≡ abi_kind.func)
    × (KIND_INTERFACE ≡ abi_kind.interface) × (KIND_MAP ≡ abi_kind.map) × (KIND_POINTER ≡ abi_kind.pointer)
    × (KIND_SLICE ≡ abi_kind.slice) × (KIND_STRING ≡ abi_kind.string) × (KIND_STRUCT ≡ abi_kind.struct)

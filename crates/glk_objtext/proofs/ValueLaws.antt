-- The fields of a spelled line say what it was spelled of.
use Rattle.std.proofs.Common.{◌≡◌, ℕ, ℤ, pos, negsuc, ◌^◌, ◌<◌, List, [], ◌∷◌, ◌++◌, length, get_or, refl, sym, arith, inl, inr, Ok, w32, w64}
use Rattle.std.specs.Prelude.{FitsSigned}
use Rattle.std.proofs.lemmas.Bool.{cases_eq}
use Rattle.hex.specs.Hex.{IsBytes}
use Rattle.glk_obj.specs.declared.records.AuxRec.{AuxRec}
use Rattle.glk_obj.specs.declared.records.RefFlagsRec.{RefFlagsRec}
use Rattle.glk_obj.specs.declared.records.RelocRec.{RelocRec}
use Rattle.glk_obj.specs.declared.records.SymRef.{SymRef}
use Rattle.glk_objdesc.specs.Printable.{HasNoZero, IsPlainRef}
use Rattle.glk_objdesc.specs.Typed.{IsTypedSymbol, IsTypedReloc, IsTypedAux, IsTypedFlags, IsTypedRef}
use Rattle.glk_objdesc.specs.declared.desc.AutolibDesc.{AutolibDesc}
use Rattle.glk_objdesc.specs.declared.desc.RefNameDesc.{RefNameDesc}
use Rattle.glk_objdesc.specs.declared.desc.SymDesc.{SymDesc}
use Rattle.glk_objtext.specs.Numbers.{IsWithin}
use Rattle.glk_objtext.specs.Octets.{octets_text}
use Rattle.glk_objtext.specs.Strings.{NoZeros}
use Rattle.glk_objtext.specs.Targets.{target_of, target_text}
use Rattle.glk_objtext.specs.Text.{symbol_fields, fields_of_line}
use Rattle.glk_objtext.specs.Values.{header_of, import_of, symbol_of, reloc_of, aux_of, ref_flags_of, ref_name_of, short_hashed_of, long_hashed_of, as_line, value_of, word_of_line, block_word}
use Rattle.glk_objtext.specs.declared.line.DefBlock.{DefBlock}
use Rattle.glk_objtext.specs.declared.line.DefBlock.TheVariants.{Symdef, Hashed64def, Hasheddef, Nonpkgdef}
use Rattle.glk_objtext.specs.declared.line.Line.{Line}
use Rattle.glk_objtext.specs.declared.line.Line.TheVariants.{Header, Import, Package, Source, Symbol, Content, Relocation, Auxiliary, Reference, Flags, Named}
use Rattle.glk_objtext.proofs.NumberFacts.{number_read}
use Rattle.glk_objtext.proofs.SpellingLaws.{signed_read, octets_read, sized_read}
use Rattle.glk_objtext.proofs.StringLaws.{string_read}
use Rattle.glk_objtext.proofs.TargetLaws.{target_read}

-- a string without a zero byte, as strings are read
pub no_zeros : (s : List ℕ) → HasNoZero s → IsBytes s → NoZeros s
unfolding HasNoZero
no_zeros s h small = record {
  some = λ i inside. elim (cases_eq (get_or s i 0) 0) [
    | inl zero_byte ↦ absurd (h (i, inside, zero_byte))
    | inr other ↦ omega arith
  ];
  small = small;
}

pub within_word : (z : ℤ) → FitsSigned w32 z → IsWithin (2 ^ 31) z
within_word (pos n) h = h.sfits
within_word (negsuc n) h = h.sfits

pub within_long : (z : ℤ) → FitsSigned w64 z → IsWithin (2 ^ 63) z
within_long (pos n) h = h.sfits
within_long (negsuc n) h = h.sfits

-- a symbol whose numbers are within their types, and whose name has no zero byte
pub record IsSpeltSymbol (s : SymDesc) : Type 0 where
  pub typed : IsTypedSymbol s
  pub name : NoZeros s.name

-- a hash that definitions of the block may have
abbrev pub IsSpeltHash : DefBlock → List ℕ → Type 0
IsSpeltHash Symdef hash = hash ≡ []
IsSpeltHash Hashed64def hash = IsBytes hash × (length hash ≡ 8)
IsSpeltHash Hasheddef hash = IsBytes hash
IsSpeltHash Nonpkgdef hash = hash ≡ []

-- a line whose numbers are within their fields, and whose strings and bytes can be spelled
abbrev pub IsSpelt : Line → Type 0
IsSpelt (Header flags fingerprint) = (flags < 2 ^ 32) × IsBytes fingerprint × (length fingerprint ≡ 8)
IsSpelt (Import a) = NoZeros a.path × IsBytes a.fingerprint × (length a.fingerprint ≡ 8)
IsSpelt (Package path) = NoZeros path
IsSpelt (Source file) = NoZeros file
IsSpelt (Symbol block sym hash) = IsSpeltSymbol sym × IsSpeltHash block hash
IsSpelt (Content bytes) = IsBytes bytes
IsSpelt (Relocation r) = IsTypedReloc r × IsPlainRef r.target
IsSpelt (Auxiliary a) = IsTypedAux a × IsPlainRef a.target
IsSpelt (Reference sym) = IsSpeltSymbol sym
IsSpelt (Flags r) = IsTypedFlags r × IsPlainRef r.target
IsSpelt (Named r) = IsTypedRef r.target × IsPlainRef r.target × NoZeros r.name

-- a symbol
symbol_back : (w : List ℕ) (s : SymDesc) (more : List (List ℕ)) → IsSpeltSymbol s → symbol_of (w ∷ (symbol_fields s ++ more)) ≡ Ok s
unfolding symbol_of
symbol_back w s more h =
    let t = h.typed in
    let abi = number_read 65536 s.abi (omega arith) t.abi in
    let kind = number_read 256 s.kind (omega arith) t.kind in
    let flag = number_read 256 s.flag (omega arith) t.flag in
    let flag2 = number_read 256 s.flag2 (omega arith) t.flag2 in
    let size = number_read 4294967296 s.size (omega arith) t.size in
    let align = number_read 4294967296 s.align (omega arith) t.align in
    let name = string_read s.name h.name in
    rw abi (rw kind (rw flag (rw flag2 (rw size (rw align (rw name refl))))))

header_back : (w : List ℕ) (flags : ℕ) (fingerprint : List ℕ) → IsSpelt (Header flags fingerprint) → header_of (w ∷ fields_of_line (Header flags fingerprint)) ≡ Ok (Header flags fingerprint)
unfolding header_of
header_back w flags fingerprint h =
    let number = number_read 4294967296 flags (omega arith) h.0 in
    let bytes = sized_read 8 fingerprint h.1 h.2 (omega arith) in
    rw number (rw bytes refl)

import_back : (w : List ℕ) (a : AutolibDesc) → IsSpelt (Import a) → import_of (w ∷ fields_of_line (Import a)) ≡ Ok a
unfolding import_of
import_back w a h =
    let path = string_read a.path h.0 in
    let bytes = sized_read 8 a.fingerprint h.1 h.2 (omega arith) in
    rw path (rw bytes refl)

target_back : (r : SymRef) → IsTypedRef r → IsPlainRef r → target_of (target_text r) ≡ Ok r
target_back r t h = target_read r h t.sym

reloc_back : (w : List ℕ) (r : RelocRec) → IsSpelt (Relocation r) → reloc_of (w ∷ fields_of_line (Relocation r)) ≡ Ok r
unfolding reloc_of
reloc_back w r h =
    let t = h.0 in
    let off = signed_read 2147483648 r.off (omega arith) (within_word r.off t.off) in
    let size = number_read 256 r.size (omega arith) t.size in
    let kind = number_read 65536 r.kind (omega arith) t.kind in
    let add = signed_read 9223372036854775808 r.add (omega arith) (within_long r.add t.add) in
    let target = target_back r.target t.target h.1 in
    rw off (rw size (rw kind (rw add (rw target refl))))

aux_back : (w : List ℕ) (a : AuxRec) → IsSpelt (Auxiliary a) → aux_of (w ∷ fields_of_line (Auxiliary a)) ≡ Ok a
unfolding aux_of
aux_back w a h =
    let t = h.0 in
    let kind = number_read 256 a.kind (omega arith) t.kind in
    let target = target_back a.target t.target h.1 in
    rw kind (rw target refl)

flags_back : (w : List ℕ) (r : RefFlagsRec) → IsSpelt (Flags r) → ref_flags_of (w ∷ fields_of_line (Flags r)) ≡ Ok r
unfolding ref_flags_of
flags_back w r h =
    let t = h.0 in
    let target = target_back r.target t.target h.1 in
    let flag = number_read 256 r.flag (omega arith) t.flag in
    let flag2 = number_read 256 r.flag2 (omega arith) t.flag2 in
    rw target (rw flag (rw flag2 refl))

name_back : (w : List ℕ) (r : RefNameDesc) → IsSpelt (Named r) → ref_name_of (w ∷ fields_of_line (Named r)) ≡ Ok r
unfolding ref_name_of
name_back w r h =
    let target = target_back r.target h.0 h.1 in
    let name = string_read r.name h.2 in
    rw target (rw name refl)

def_back : (w : List ℕ) (block : DefBlock) (sym : SymDesc) (hash : List ℕ) → IsSpelt (Symbol block sym hash) → value_of (block_word block) (w ∷ fields_of_line (Symbol block sym hash)) ≡ Ok (Symbol block sym hash)
unfolding value_of as_line short_hashed_of long_hashed_of
def_back w Symdef sym hash h = rw (symbol_back w sym [] h.0) (let e = h.1 in rw e refl)
def_back w Hashed64def sym hash h = rw (symbol_back w sym (octets_text hash ∷ []) h.0) (rw (sized_read 8 hash h.1.0 h.1.1 (omega arith)) refl)
def_back w Hasheddef sym hash h = rw (symbol_back w sym (octets_text hash ∷ []) h.0) (rw (octets_read hash h.1) refl)
def_back w Nonpkgdef sym hash h = rw (symbol_back w sym [] h.0) (let e = h.1 in rw e refl)

-- the values of a line's fields make the line
pub value_back : (w : List ℕ) (line : Line) → IsSpelt line → value_of (word_of_line line) (w ∷ fields_of_line line) ≡ Ok line
unfolding value_of as_line
value_back w (Header flags fingerprint) h = header_back w flags fingerprint h
value_back w (Import a) h = rw (import_back w a h) refl
value_back w (Package path) h = rw (string_read path h) refl
value_back w (Source file) h = rw (string_read file h) refl
value_back w (Symbol block sym hash) h = def_back w block sym hash h
value_back w (Content bytes) h = rw (octets_read bytes h) refl
value_back w (Relocation r) h = rw (reloc_back w r h) refl
value_back w (Auxiliary a) h = rw (aux_back w a h) refl
value_back w (Reference sym) h = let e : symbol_of (w ∷ symbol_fields sym) ≡ Ok sym = symbol_back w sym [] h in rw e refl
value_back w (Flags r) h = rw (flags_back w r h) refl
value_back w (Named r) h = rw (name_back w r h) refl

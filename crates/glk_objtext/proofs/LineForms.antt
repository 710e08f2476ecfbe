-- What a line reads as, by the text form: a value that holds its fields, or the rule of the first
-- malformed field.
use Rattle.std.proofs.Common.{◌≡◌, ◌+◌, ◌<◌, ℕ, Bool, true, false, List, [], ◌∷◌, length, refl, sym, arith, inl, inr, Result, Ok, Err}
use Rattle.std.specs.Prelude.{◌⊎◌}
use Rattle.std.specs.List.{All}
use Rattle.std.proofs.lemmas.Bool.{false≢true}
use Rattle.glk_objtext.specs.Entries.{HoldsHeader, HoldsAutolib, HoldsString, HoldsSymbol, HoldsShortHash, HoldsLongHash, HoldsData, HoldsReloc, HoldsAux, HoldsRefFlags, HoldsRefName}
use Rattle.glk_objtext.specs.Fields.{field_at}
use Rattle.glk_objtext.specs.Kinds.{Sort, symbol_sorts, kind_sorts, HasMalformed}
use Rattle.glk_objtext.specs.Kinds.Sort.{text, octets, octets_of_length}
use Rattle.glk_objtext.specs.Octets.{octets_of}
use Rattle.glk_objtext.specs.Strings.{string_of}
use Rattle.glk_objtext.specs.Values.{value_of, as_line, short_hashed_of, long_hashed_of, header_of, import_of, symbol_of, reloc_of, aux_of, ref_flags_of, ref_name_of, word_of_line}
use Rattle.glk_objtext.specs.declared.line.DefBlock.TheVariants.{Symdef, Hashed64def, Hasheddef, Nonpkgdef}
use Rattle.glk_objtext.specs.declared.line.Line.{Line}
use Rattle.glk_objtext.specs.declared.line.Line.TheVariants.{Header, Import, Package, Source, Symbol, Content, Relocation, Auxiliary, Reference, Flags, Named}
use Rattle.glk_objtext.specs.declared.words.Word.{Word}
use Rattle.glk_objtext.specs.declared.words.Word.TheVariants.{Object, Autolib, Pkg, File, Def, Hash64, Hash, Data, Reloc, Aux, Ndef, Ref, RefFlags, RefName}
use Rattle.glk_objtext.proofs.KindFacts.{kind_of}
use Rattle.glk_objtext.proofs.ValueForms.{Front, HeaderHolds, import_sorts, reloc_sorts, aux_sorts, ref_flags_sorts, ref_name_sorts, string_verdict, sized_verdict, octets_verdict, header_front, import_front, symbol_front, reloc_front, aux_front, ref_flags_front, ref_name_front}

-- the fields hold what the line says
abbrev pub Holds : List (List ℕ) → Line → Type 0
Holds fs (Header flags fingerprint) = HoldsHeader fs flags fingerprint
Holds fs (Import a) = HoldsAutolib fs a
Holds fs (Package path) = HoldsString fs path
Holds fs (Source file) = HoldsString fs file
Holds fs (Symbol Symdef sym hash) = HoldsSymbol fs sym × (hash ≡ [])
Holds fs (Symbol Hashed64def sym hash) = HoldsSymbol fs sym × HoldsShortHash fs hash
Holds fs (Symbol Hasheddef sym hash) = HoldsSymbol fs sym × HoldsLongHash fs hash
Holds fs (Symbol Nonpkgdef sym hash) = HoldsSymbol fs sym × (hash ≡ [])
Holds fs (Content bytes) = HoldsData fs bytes
Holds fs (Relocation r) = HoldsReloc fs r
Holds fs (Auxiliary a) = HoldsAux fs a
Holds fs (Reference sym) = HoldsSymbol fs sym
Holds fs (Flags r) = HoldsRefFlags fs r
Holds fs (Named r) = HoldsRefName fs r

-- no field is malformed, and the line says what they hold; or the first malformed one is of these sorts
abbrev pub Reads : Result Line ℕ → Word → List Sort → List (List ℕ) → Type 0
Reads r w sorts fs =
    ((line : Line) × (r ≡ Ok line) × (word_of_line line ≡ w) × Holds fs line × ((b : Bool) → ¬ HasMalformed b 1 sorts fs))
    ⊎ (((r ≡ Err 5) × HasMalformed true 1 sorts fs)
    ⊎ ((r ≡ Err 6) × (¬ HasMalformed true 1 sorts fs) × HasMalformed false 1 sorts fs))

-- a front that is the whole line
whole : {A : Type 0} (r : Result A ℕ) (Is : A → Type 0) (front : List Sort → List Sort) (last : ℕ) (fs : List (List ℕ)) (make : A → Line) (w : Word)
    → ((x : A) → word_of_line (make x) ≡ w) → ((x : A) → Is x → Holds fs (make x)) → Front r Is front last fs → Reads (as_line make r) w (front []) fs
unfolding as_line
whole r Is front last fs make w word holds (inl is) =
    let e = is.1 in
    inl (make is.0, rw e refl, word is.0, holds is.0 is.2, λ b h. is.3 b [] h)
whole r Is front last fs make w word holds (inr (inl bad)) = let e = bad.0 in inr (inl (rw e refl, bad.1 []))
whole r Is front last fs make w word holds (inr (inr bad)) = let e = bad.0 in inr (inr (rw e refl, λ h. bad.1 [] h, bad.2 []))

-- a line of one string, and of bytes
one_string : (fs : List (List ℕ)) (make : List ℕ → Line) (w : Word) → ((s : List ℕ) → word_of_line (make s) ≡ w) → ((s : List ℕ) → HoldsString fs s → Holds fs (make s))
    → Reads (as_line make (string_of (field_at fs 1))) w (text ∷ []) fs
unfolding as_line
one_string fs make w word holds = elim (string_verdict (field_at fs 1)) [
  | inl is ↦
      let e = is.1 in
      inl (make is.0, rw e refl, word is.0, holds is.0 is.2, λ b h. elim h [ inl bad ↦ bad.1 (is.0, is.2) | inr none ↦ none ])
  | inr lack ↦
      let e = lack.0 in
      inr (inr (rw e refl, λ h. elim h [ inl bad ↦ false≢true bad.0 | inr none ↦ none ], inl (refl, λ here. lack.1 here.0 here.1)))
]

one_data : (fs : List (List ℕ)) → 0 < length (field_at fs 1) → Reads (as_line Content (octets_of (field_at fs 1))) Data (octets ∷ []) fs
unfolding as_line
one_data fs some = elim (octets_verdict (field_at fs 1) some) [
  | inl is ↦
      let e = is.1 in
      inl (Content is.0, rw e refl, refl, is.2, λ b h. elim h [ inl bad ↦ bad.1 (is.0, is.2) | inr none ↦ none ])
  | inr lack ↦
      let e = lack.0 in
      inr (inr (rw e refl, λ h. elim h [ inl bad ↦ false≢true bad.0 | inr none ↦ none ], inl (refl, λ here. lack.1 here.0 here.1)))
]

header_reads : (fs : List (List ℕ)) → Reads (header_of fs) Object (kind_sorts (kind_of Object)) fs
header_reads fs = elim (header_front fs) [
  | inl is ↦ header_good is.0 is.1 is.2 (λ b h. is.3 b [] h)
  | inr bad ↦ elim bad [ inl five ↦ inr (inl (five.0, five.1 [])) | inr six ↦ inr (inr (six.0, λ h. six.1 [] h, six.2 [])) ]
]
  where
    header_good : (line : Line) → header_of fs ≡ Ok line → HeaderHolds fs line → ((b : Bool) → ¬ HasMalformed b 1 (kind_sorts (kind_of Object)) fs) → Reads (header_of fs) Object (kind_sorts (kind_of Object)) fs
    header_good (Header flags fingerprint) e h lack = inl (Header flags fingerprint, e, refl, h, lack)
    header_good line e h lack = absurd h

-- a line of a definition with a hash
short_reads : (fs : List (List ℕ)) → Reads (short_hashed_of fs) Hash64 (kind_sorts (kind_of Hash64)) fs
unfolding short_hashed_of
short_reads fs = elim (symbol_front fs) [
  | inl s ↦ elim (sized_verdict 8 (field_at fs 8) (omega arith)) [
    | inl is ↦
        let e = s.1 in
        let d = is.1 in
        inl (Symbol Hashed64def s.0 is.0, rw e (rw d refl), refl, (s.2, is.2), λ b h. elim (s.3 b (octets_of_length 8 ∷ []) h) [ inl bad ↦ bad.1 (is.0, is.2) | inr none ↦ none ])
    | inr lack ↦
        let e = s.1 in
        let d = lack.0 in
        inr (inr (rw e (rw d refl), λ h. elim (s.3 true (octets_of_length 8 ∷ []) h) [ inl bad ↦ false≢true bad.0 | inr none ↦ none ], inr (inr (inr (inr (inr (inr (inr (inl (refl, λ here. lack.1 here.0 here.1))))))))))
  ]
  | inr bad ↦ elim bad [
    | inl five ↦ let e = five.0 in inr (inl (rw e refl, five.1 (octets_of_length 8 ∷ [])))
    | inr six ↦ let e = six.0 in inr (inr (rw e refl, λ h. elim (six.1 (octets_of_length 8 ∷ []) h) [ inl bad ↦ false≢true bad.0 | inr none ↦ none ], six.2 (octets_of_length 8 ∷ [])))
  ]
]

long_reads : (fs : List (List ℕ)) → 0 < length (field_at fs 8) → Reads (long_hashed_of fs) Hash (kind_sorts (kind_of Hash)) fs
unfolding long_hashed_of
long_reads fs some = elim (symbol_front fs) [
  | inl s ↦ elim (octets_verdict (field_at fs 8) some) [
    | inl is ↦
        let e = s.1 in
        let d = is.1 in
        inl (Symbol Hasheddef s.0 is.0, rw e (rw d refl), refl, (s.2, is.2), λ b h. elim (s.3 b (octets ∷ []) h) [ inl bad ↦ bad.1 (is.0, is.2) | inr none ↦ none ])
    | inr lack ↦
        let e = s.1 in
        let d = lack.0 in
        inr (inr (rw e (rw d refl), λ h. elim (s.3 true (octets ∷ []) h) [ inl bad ↦ false≢true bad.0 | inr none ↦ none ], inr (inr (inr (inr (inr (inr (inr (inl (refl, λ here. lack.1 here.0 here.1))))))))))
  ]
  | inr bad ↦ elim bad [
    | inl five ↦ let e = five.0 in inr (inl (rw e refl, five.1 (octets ∷ [])))
    | inr six ↦ let e = six.0 in inr (inr (rw e refl, λ h. elim (six.1 (octets ∷ []) h) [ inl bad ↦ false≢true bad.0 | inr none ↦ none ], six.2 (octets ∷ [])))
  ]
]

-- a field that a line has is not empty
here_full : (fs : List (List ℕ)) (k n : ℕ) → All (λ (f : List ℕ). 0 < length f) fs → length fs ≡ n → k < n → 0 < length (field_at fs k)
here_full fs k n full is inside = full k [] (omega arith)

-- what a line of each word reads as
pub line_reads : (w : Word) (fs : List (List ℕ)) → All (λ (f : List ℕ). 0 < length f) fs → length fs ≡ length (kind_sorts (kind_of w)) + 1 → Reads (value_of w fs) w (kind_sorts (kind_of w)) fs
unfolding value_of
line_reads Object fs full n = header_reads fs
line_reads Autolib fs full n = whole (import_of fs) (HoldsAutolib fs) import_sorts 3 fs Import Autolib (λ x. refl) (λ x h. h) (import_front fs)
line_reads Pkg fs full n = one_string fs Package Pkg (λ s. refl) (λ s h. h)
line_reads File fs full n = one_string fs Source File (λ s. refl) (λ s h. h)
line_reads Def fs full n = whole (symbol_of fs) (HoldsSymbol fs) symbol_sorts 8 fs (λ sym. Symbol Symdef sym []) Def (λ x. refl) (λ x h. (h, refl)) (symbol_front fs)
line_reads Hash64 fs full n = short_reads fs
line_reads Hash fs full n = long_reads fs (here_full fs 8 9 full n (omega arith))
line_reads Data fs full n = one_data fs (here_full fs 1 2 full n (omega arith))
line_reads Reloc fs full n = whole (reloc_of fs) (HoldsReloc fs) reloc_sorts 6 fs Relocation Reloc (λ x. refl) (λ x h. h) (reloc_front fs)
line_reads Aux fs full n = whole (aux_of fs) (HoldsAux fs) aux_sorts 3 fs Auxiliary Aux (λ x. refl) (λ x h. h) (aux_front fs)
line_reads Ndef fs full n = whole (symbol_of fs) (HoldsSymbol fs) symbol_sorts 8 fs (λ sym. Symbol Nonpkgdef sym []) Ndef (λ x. refl) (λ x h. (h, refl)) (symbol_front fs)
line_reads Ref fs full n = whole (symbol_of fs) (HoldsSymbol fs) symbol_sorts 8 fs Reference Ref (λ x. refl) (λ x h. h) (symbol_front fs)
line_reads RefFlags fs full n = whole (ref_flags_of fs) (HoldsRefFlags fs) ref_flags_sorts 4 fs Flags RefFlags (λ x. refl) (λ x h. h) (ref_flags_front fs)
line_reads RefName fs full n = whole (ref_name_of fs) (HoldsRefName fs) ref_name_sorts 3 fs Named RefName (λ x. refl) (λ x h. h) (ref_name_front fs)

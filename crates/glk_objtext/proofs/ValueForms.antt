-- What a line of each word reads as, by the text form: the values of its fields, or the rule of the
-- first malformed one.
use Rattle.std.proofs.Common.{◌≡◌, ◌∙◌, ℕ, ◌^◌, ◌<◌, ◌≤◌, Bool, true, false, List, ◌∷◌, length, suc, refl, sym, arith, inl, inr, Result, Ok, Err}
use Rattle.std.specs.Prelude.{◌⊎◌}
use Rattle.std.proofs.lemmas.Bool.{false≢true}
use Rattle.glk_objtext.specs.Entries.{HoldsHeader, HoldsAutolib, HoldsSymbol, HoldsReloc, HoldsAux, HoldsRefFlags, HoldsRefName}
use Rattle.glk_objtext.specs.Fields.{field_at}
use Rattle.glk_objtext.specs.Forms.{IsNumber, IsSigned, IsOctets, IsSized, IsReference, IsString}
use Rattle.glk_objtext.specs.Kinds.{Sort, is_numeric, symbol_sorts, IsOfSort, HasMalformed}
use Rattle.glk_objtext.specs.Kinds.Sort.{number, signed_number, reference, text, octets_of_length}
use Rattle.glk_objtext.specs.Numbers.{number_of, signed_of}
use Rattle.glk_objtext.specs.Octets.{octets_of, sized_of}
use Rattle.glk_objtext.specs.Strings.{string_of}
use Rattle.glk_objtext.specs.Targets.{target_of}
use Rattle.glk_objtext.specs.Values.{header_of, import_of, symbol_of, reloc_of, aux_of, ref_flags_of, ref_name_of}
use Rattle.glk_objtext.specs.declared.line.Line.{Line}
use Rattle.glk_objtext.specs.declared.line.Line.TheVariants.{Header}
use Rattle.glk_objtext.proofs.SortForms.{OrElse, number_back, number_is, number_else, signed_back, signed_is, signed_else, octets_back, octets_are, octets_else, sized_back, sized_is, sized_else, reference_back, reference_is, reference_else}
use Rattle.glk_objtext.proofs.StringForms.{err_ok, string_back, string_is, string_else}

-- A field reads as what it spells, or it spells nothing and breaks the rule.
abbrev pub Verdict : {A : Type 0} → Result A ℕ → ℕ → (A → Type 0) → Type 0
Verdict {A} r rule Is = ((x : A) × (r ≡ Ok x) × Is x) ⊎ ((r ≡ Err rule) × ((x : A) → ¬ Is x))

by_read : {A : Type 0} (r : Result A ℕ) (rule : ℕ) (Is : A → Type 0) → ((x : A) → r ≡ Ok x → Is x) → ((x : A) → Is x → r ≡ Ok x) → OrElse r rule → Verdict r rule Is
by_read (Ok x) rule Is back is other = inl (x, refl, back x refl)
by_read (Err e) rule Is back is other = inr (other (λ x. err_ok e x), λ x here. err_ok e x (is x here))

pub number_verdict : (limit : ℕ) (f : List ℕ) → limit ≤ 2 ^ 64 → Verdict (number_of limit f) 5 (IsNumber limit f)
number_verdict limit f few = by_read (number_of limit f) 5 (IsNumber limit f) (number_back limit f) (λ n. number_is limit f n few) (number_else limit f)

pub signed_verdict : (limit : ℕ) (f : List ℕ) → limit ≤ 2 ^ 63 → Verdict (signed_of limit f) 5 (IsSigned limit f)
signed_verdict limit f few = by_read (signed_of limit f) 5 (IsSigned limit f) (signed_back limit f) (λ z. signed_is limit f z few) (signed_else limit f)

pub reference_verdict : (f : List ℕ) → Verdict (target_of f) 5 (IsReference f)
reference_verdict f = by_read (target_of f) 5 (IsReference f) (reference_back f) (reference_is f) (reference_else f)

pub string_verdict : (f : List ℕ) → Verdict (string_of f) 6 (IsString f)
string_verdict f = by_read (string_of f) 6 (IsString f) (string_back f) (string_is f) (string_else f)

pub sized_verdict : (n : ℕ) (f : List ℕ) → 0 < n → Verdict (sized_of n f) 6 (IsSized n f)
sized_verdict n f some = by_read (sized_of n f) 6 (IsSized n f) (λ s. sized_back n f s some) (λ s. sized_is n f s some) (sized_else n f)

pub octets_verdict : (f : List ℕ) → 0 < length f → Verdict (octets_of f) 6 (IsOctets f)
octets_verdict f some = by_read (octets_of f) 6 (IsOctets f) (λ s. octets_back f s some) (octets_are f) (octets_else f)

-- a field that is of its sort, or that is not asked for
good : (b : Bool) (k : ℕ) (sort : Sort) (sorts : List Sort) (fs : List (List ℕ)) → IsOfSort sort (field_at fs k) → HasMalformed b k (sort ∷ sorts) fs → HasMalformed b (suc k) sorts fs
good b k sort sorts fs is (inl bad) = absurd (bad.1 is)
good b k sort sorts fs is (inr more) = more

unasked : (b c : Bool) (k : ℕ) (sort : Sort) (sorts : List Sort) (fs : List (List ℕ)) → is_numeric sort ≡ c → ¬ (c ≡ b) → HasMalformed b k (sort ∷ sorts) fs → HasMalformed b (suc k) sorts fs
unasked b c k sort sorts fs is other (inl bad) = absurd (other (sym is ∙ bad.0))
unasked b c k sort sorts fs is other (inr more) = more

-- What some of the first fields of a line read as, where the sorts of more fields follow theirs.
abbrev pub Front : {A : Type 0} → Result A ℕ → (A → Type 0) → (List Sort → List Sort) → ℕ → List (List ℕ) → Type 0
Front {A} r Is front last fs =
    ((x : A) × (r ≡ Ok x) × Is x × ((b : Bool) (m : List Sort) → HasMalformed b 1 (front m) fs → HasMalformed b last m fs))
    ⊎ (((r ≡ Err 5) × ((m : List Sort) → HasMalformed true 1 (front m) fs))
    ⊎ ((r ≡ Err 6) × ((m : List Sort) → HasMalformed true 1 (front m) fs → HasMalformed true last m fs) × ((m : List Sort) → HasMalformed false 1 (front m) fs)))

-- what an `object` line holds
abbrev pub HeaderHolds : List (List ℕ) → Line → Type 0
HeaderHolds fs (Header flags fingerprint) = HoldsHeader fs flags fingerprint
HeaderHolds fs line = ⊥

abbrev pub header_sorts : List Sort → List Sort
header_sorts m = number (2 ^ 32) ∷ octets_of_length 8 ∷ m

pub header_front : (fs : List (List ℕ)) → Front (header_of fs) (HeaderHolds fs) header_sorts 3 fs
unfolding header_of
header_front fs =
    elim (number_verdict (2 ^ 32) (field_at fs 1) (omega arith)) [
      | inl a0 ↦
          elim (sized_verdict 8 (field_at fs 2) (omega arith)) [
            | inl a1 ↦
                let e0 = a0.1 in
                let e1 = a1.1 in
                inl (Header a0.0 a1.0, rw e0 (rw e1 (refl)), record { flags_field = a0.2; fingerprint_field = a1.2 }, λ b m h. (good b 2 (octets_of_length 8) (m) fs (a1.0, a1.2) (good b 1 (number (2 ^ 32)) (octets_of_length 8 ∷ m) fs (a0.0, a0.2) h)))
            | inr b1 ↦ let e0 = a0.1 in let e1 = b1.0 in inr (inr (rw e0 (rw e1 (refl)), λ m h. (unasked true false 2 (octets_of_length 8) (m) fs refl false≢true (good true 1 (number (2 ^ 32)) (octets_of_length 8 ∷ m) fs (a0.0, a0.2) h)), λ m. inr (inl (refl, λ here. b1.1 here.0 here.1))))
          ]
      | inr b0 ↦ let e0 = b0.0 in inr (inl (rw e0 (refl), λ m. inl (refl, λ here. b0.1 here.0 here.1)))
    ]

abbrev pub import_sorts : List Sort → List Sort
import_sorts m = text ∷ octets_of_length 8 ∷ m

pub import_front : (fs : List (List ℕ)) → Front (import_of fs) (HoldsAutolib fs) import_sorts 3 fs
unfolding import_of
import_front fs =
    elim (string_verdict (field_at fs 1)) [
      | inl a0 ↦
          elim (sized_verdict 8 (field_at fs 2) (omega arith)) [
            | inl a1 ↦
                let e0 = a0.1 in
                let e1 = a1.1 in
                inl (record { path = a0.0; fingerprint = a1.0 }, rw e0 (rw e1 (refl)), record { path = a0.2; fingerprint = a1.2 }, λ b m h. (good b 2 (octets_of_length 8) (m) fs (a1.0, a1.2) (good b 1 text (octets_of_length 8 ∷ m) fs (a0.0, a0.2) h)))
            | inr b1 ↦ let e0 = a0.1 in let e1 = b1.0 in inr (inr (rw e0 (rw e1 (refl)), λ m h. (unasked true false 2 (octets_of_length 8) (m) fs refl false≢true (good true 1 text (octets_of_length 8 ∷ m) fs (a0.0, a0.2) h)), λ m. inr (inl (refl, λ here. b1.1 here.0 here.1))))
          ]
      | inr b0 ↦ let e0 = b0.0 in inr (inr (rw e0 (refl), λ m h. (unasked true false 2 (octets_of_length 8) (m) fs refl false≢true (unasked true false 1 text (octets_of_length 8 ∷ m) fs refl false≢true h)), λ m. inl (refl, λ here. b0.1 here.0 here.1)))
    ]

pub symbol_front : (fs : List (List ℕ)) → Front (symbol_of fs) (HoldsSymbol fs) symbol_sorts 8 fs
unfolding symbol_of
symbol_front fs =
    elim (number_verdict (2 ^ 16) (field_at fs 2) (omega arith)) [
      | inl a0 ↦
          elim (number_verdict (2 ^ 8) (field_at fs 3) (omega arith)) [
            | inl a1 ↦
                elim (number_verdict (2 ^ 8) (field_at fs 4) (omega arith)) [
                  | inl a2 ↦
                      elim (number_verdict (2 ^ 8) (field_at fs 5) (omega arith)) [
                        | inl a3 ↦
                            elim (number_verdict (2 ^ 32) (field_at fs 6) (omega arith)) [
                              | inl a4 ↦
                                  elim (number_verdict (2 ^ 32) (field_at fs 7) (omega arith)) [
                                    | inl a5 ↦
                                        elim (string_verdict (field_at fs 1)) [
                                          | inl a6 ↦
                                              let e0 = a0.1 in
                                              let e1 = a1.1 in
                                              let e2 = a2.1 in
                                              let e3 = a3.1 in
                                              let e4 = a4.1 in
                                              let e5 = a5.1 in
                                              let e6 = a6.1 in
                                              inl (record { abi = a0.0; kind = a1.0; flag = a2.0; flag2 = a3.0; size = a4.0; align = a5.0; name = a6.0 }, rw e0 (rw e1 (rw e2 (rw e3 (rw e4 (rw e5 (rw e6 (refl))))))), record { abi = a0.2; kind = a1.2; flag = a2.2; flag2 = a3.2; size = a4.2; align = a5.2; name = a6.2 }, λ b m h. (good b 7 (number (2 ^ 32)) (m) fs (a5.0, a5.2) (good b 6 (number (2 ^ 32)) (number (2 ^ 32) ∷ m) fs (a4.0, a4.2) (good b 5 (number (2 ^ 8)) (number (2 ^ 32) ∷ number (2 ^ 32) ∷ m) fs (a3.0, a3.2) (good b 4 (number (2 ^ 8)) (number (2 ^ 8) ∷ number (2 ^ 32) ∷ number (2 ^ 32) ∷ m) fs (a2.0, a2.2) (good b 3 (number (2 ^ 8)) (number (2 ^ 8) ∷ number (2 ^ 8) ∷ number (2 ^ 32) ∷ number (2 ^ 32) ∷ m) fs (a1.0, a1.2) (good b 2 (number (2 ^ 16)) (number (2 ^ 8) ∷ number (2 ^ 8) ∷ number (2 ^ 8) ∷ number (2 ^ 32) ∷ number (2 ^ 32) ∷ m) fs (a0.0, a0.2) (good b 1 text (number (2 ^ 16) ∷ number (2 ^ 8) ∷ number (2 ^ 8) ∷ number (2 ^ 8) ∷ number (2 ^ 32) ∷ number (2 ^ 32) ∷ m) fs (a6.0, a6.2) h))))))))
                                          | inr b6 ↦ let e0 = a0.1 in let e1 = a1.1 in let e2 = a2.1 in let e3 = a3.1 in let e4 = a4.1 in let e5 = a5.1 in let e6 = b6.0 in inr (inr (rw e0 (rw e1 (rw e2 (rw e3 (rw e4 (rw e5 (rw e6 (refl))))))), λ m h. (good true 7 (number (2 ^ 32)) (m) fs (a5.0, a5.2) (good true 6 (number (2 ^ 32)) (number (2 ^ 32) ∷ m) fs (a4.0, a4.2) (good true 5 (number (2 ^ 8)) (number (2 ^ 32) ∷ number (2 ^ 32) ∷ m) fs (a3.0, a3.2) (good true 4 (number (2 ^ 8)) (number (2 ^ 8) ∷ number (2 ^ 32) ∷ number (2 ^ 32) ∷ m) fs (a2.0, a2.2) (good true 3 (number (2 ^ 8)) (number (2 ^ 8) ∷ number (2 ^ 8) ∷ number (2 ^ 32) ∷ number (2 ^ 32) ∷ m) fs (a1.0, a1.2) (good true 2 (number (2 ^ 16)) (number (2 ^ 8) ∷ number (2 ^ 8) ∷ number (2 ^ 8) ∷ number (2 ^ 32) ∷ number (2 ^ 32) ∷ m) fs (a0.0, a0.2) (unasked true false 1 text (number (2 ^ 16) ∷ number (2 ^ 8) ∷ number (2 ^ 8) ∷ number (2 ^ 8) ∷ number (2 ^ 32) ∷ number (2 ^ 32) ∷ m) fs refl false≢true h))))))), λ m. inl (refl, λ here. b6.1 here.0 here.1)))
                                        ]
                                    | inr b5 ↦ let e0 = a0.1 in let e1 = a1.1 in let e2 = a2.1 in let e3 = a3.1 in let e4 = a4.1 in let e5 = b5.0 in inr (inl (rw e0 (rw e1 (rw e2 (rw e3 (rw e4 (rw e5 (refl)))))), λ m. inr (inr (inr (inr (inr (inr (inl (refl, λ here. b5.1 here.0 here.1)))))))))
                                  ]
                              | inr b4 ↦ let e0 = a0.1 in let e1 = a1.1 in let e2 = a2.1 in let e3 = a3.1 in let e4 = b4.0 in inr (inl (rw e0 (rw e1 (rw e2 (rw e3 (rw e4 (refl))))), λ m. inr (inr (inr (inr (inr (inl (refl, λ here. b4.1 here.0 here.1))))))))
                            ]
                        | inr b3 ↦ let e0 = a0.1 in let e1 = a1.1 in let e2 = a2.1 in let e3 = b3.0 in inr (inl (rw e0 (rw e1 (rw e2 (rw e3 (refl)))), λ m. inr (inr (inr (inr (inl (refl, λ here. b3.1 here.0 here.1)))))))
                      ]
                  | inr b2 ↦ let e0 = a0.1 in let e1 = a1.1 in let e2 = b2.0 in inr (inl (rw e0 (rw e1 (rw e2 (refl))), λ m. inr (inr (inr (inl (refl, λ here. b2.1 here.0 here.1))))))
                ]
            | inr b1 ↦ let e0 = a0.1 in let e1 = b1.0 in inr (inl (rw e0 (rw e1 (refl)), λ m. inr (inr (inl (refl, λ here. b1.1 here.0 here.1)))))
          ]
      | inr b0 ↦ let e0 = b0.0 in inr (inl (rw e0 (refl), λ m. inr (inl (refl, λ here. b0.1 here.0 here.1))))
    ]

abbrev pub reloc_sorts : List Sort → List Sort
reloc_sorts m = signed_number (2 ^ 31) ∷ number (2 ^ 8) ∷ number (2 ^ 16) ∷ signed_number (2 ^ 63) ∷ reference ∷ m

pub reloc_front : (fs : List (List ℕ)) → Front (reloc_of fs) (HoldsReloc fs) reloc_sorts 6 fs
unfolding reloc_of
reloc_front fs =
    elim (signed_verdict (2 ^ 31) (field_at fs 1) (omega arith)) [
      | inl a0 ↦
          elim (number_verdict (2 ^ 8) (field_at fs 2) (omega arith)) [
            | inl a1 ↦
                elim (number_verdict (2 ^ 16) (field_at fs 3) (omega arith)) [
                  | inl a2 ↦
                      elim (signed_verdict (2 ^ 63) (field_at fs 4) (omega arith)) [
                        | inl a3 ↦
                            elim (reference_verdict (field_at fs 5)) [
                              | inl a4 ↦
                                  let e0 = a0.1 in
                                  let e1 = a1.1 in
                                  let e2 = a2.1 in
                                  let e3 = a3.1 in
                                  let e4 = a4.1 in
                                  inl (record { off = a0.0; size = a1.0; kind = a2.0; add = a3.0; target = a4.0 }, rw e0 (rw e1 (rw e2 (rw e3 (rw e4 (refl))))), record { off = a0.2; size = a1.2; kind = a2.2; add = a3.2; target = a4.2 }, λ b m h. (good b 5 reference (m) fs (a4.0, a4.2) (good b 4 (signed_number (2 ^ 63)) (reference ∷ m) fs (a3.0, a3.2) (good b 3 (number (2 ^ 16)) (signed_number (2 ^ 63) ∷ reference ∷ m) fs (a2.0, a2.2) (good b 2 (number (2 ^ 8)) (number (2 ^ 16) ∷ signed_number (2 ^ 63) ∷ reference ∷ m) fs (a1.0, a1.2) (good b 1 (signed_number (2 ^ 31)) (number (2 ^ 8) ∷ number (2 ^ 16) ∷ signed_number (2 ^ 63) ∷ reference ∷ m) fs (a0.0, a0.2) h))))))
                              | inr b4 ↦ let e0 = a0.1 in let e1 = a1.1 in let e2 = a2.1 in let e3 = a3.1 in let e4 = b4.0 in inr (inl (rw e0 (rw e1 (rw e2 (rw e3 (rw e4 (refl))))), λ m. inr (inr (inr (inr (inl (refl, λ here. b4.1 here.0 here.1)))))))
                            ]
                        | inr b3 ↦ let e0 = a0.1 in let e1 = a1.1 in let e2 = a2.1 in let e3 = b3.0 in inr (inl (rw e0 (rw e1 (rw e2 (rw e3 (refl)))), λ m. inr (inr (inr (inl (refl, λ here. b3.1 here.0 here.1))))))
                      ]
                  | inr b2 ↦ let e0 = a0.1 in let e1 = a1.1 in let e2 = b2.0 in inr (inl (rw e0 (rw e1 (rw e2 (refl))), λ m. inr (inr (inl (refl, λ here. b2.1 here.0 here.1)))))
                ]
            | inr b1 ↦ let e0 = a0.1 in let e1 = b1.0 in inr (inl (rw e0 (rw e1 (refl)), λ m. inr (inl (refl, λ here. b1.1 here.0 here.1))))
          ]
      | inr b0 ↦ let e0 = b0.0 in inr (inl (rw e0 (refl), λ m. inl (refl, λ here. b0.1 here.0 here.1)))
    ]

abbrev pub aux_sorts : List Sort → List Sort
aux_sorts m = number (2 ^ 8) ∷ reference ∷ m

pub aux_front : (fs : List (List ℕ)) → Front (aux_of fs) (HoldsAux fs) aux_sorts 3 fs
unfolding aux_of
aux_front fs =
    elim (number_verdict (2 ^ 8) (field_at fs 1) (omega arith)) [
      | inl a0 ↦
          elim (reference_verdict (field_at fs 2)) [
            | inl a1 ↦
                let e0 = a0.1 in
                let e1 = a1.1 in
                inl (record { kind = a0.0; target = a1.0 }, rw e0 (rw e1 (refl)), record { kind = a0.2; target = a1.2 }, λ b m h. (good b 2 reference (m) fs (a1.0, a1.2) (good b 1 (number (2 ^ 8)) (reference ∷ m) fs (a0.0, a0.2) h)))
            | inr b1 ↦ let e0 = a0.1 in let e1 = b1.0 in inr (inl (rw e0 (rw e1 (refl)), λ m. inr (inl (refl, λ here. b1.1 here.0 here.1))))
          ]
      | inr b0 ↦ let e0 = b0.0 in inr (inl (rw e0 (refl), λ m. inl (refl, λ here. b0.1 here.0 here.1)))
    ]

abbrev pub ref_flags_sorts : List Sort → List Sort
ref_flags_sorts m = reference ∷ number (2 ^ 8) ∷ number (2 ^ 8) ∷ m

pub ref_flags_front : (fs : List (List ℕ)) → Front (ref_flags_of fs) (HoldsRefFlags fs) ref_flags_sorts 4 fs
unfolding ref_flags_of
ref_flags_front fs =
    elim (reference_verdict (field_at fs 1)) [
      | inl a0 ↦
          elim (number_verdict (2 ^ 8) (field_at fs 2) (omega arith)) [
            | inl a1 ↦
                elim (number_verdict (2 ^ 8) (field_at fs 3) (omega arith)) [
                  | inl a2 ↦
                      let e0 = a0.1 in
                      let e1 = a1.1 in
                      let e2 = a2.1 in
                      inl (record { target = a0.0; flag = a1.0; flag2 = a2.0 }, rw e0 (rw e1 (rw e2 (refl))), record { target = a0.2; flag = a1.2; flag2 = a2.2 }, λ b m h. (good b 3 (number (2 ^ 8)) (m) fs (a2.0, a2.2) (good b 2 (number (2 ^ 8)) (number (2 ^ 8) ∷ m) fs (a1.0, a1.2) (good b 1 reference (number (2 ^ 8) ∷ number (2 ^ 8) ∷ m) fs (a0.0, a0.2) h))))
                  | inr b2 ↦ let e0 = a0.1 in let e1 = a1.1 in let e2 = b2.0 in inr (inl (rw e0 (rw e1 (rw e2 (refl))), λ m. inr (inr (inl (refl, λ here. b2.1 here.0 here.1)))))
                ]
            | inr b1 ↦ let e0 = a0.1 in let e1 = b1.0 in inr (inl (rw e0 (rw e1 (refl)), λ m. inr (inl (refl, λ here. b1.1 here.0 here.1))))
          ]
      | inr b0 ↦ let e0 = b0.0 in inr (inl (rw e0 (refl), λ m. inl (refl, λ here. b0.1 here.0 here.1)))
    ]

abbrev pub ref_name_sorts : List Sort → List Sort
ref_name_sorts m = reference ∷ text ∷ m

pub ref_name_front : (fs : List (List ℕ)) → Front (ref_name_of fs) (HoldsRefName fs) ref_name_sorts 3 fs
unfolding ref_name_of
ref_name_front fs =
    elim (reference_verdict (field_at fs 1)) [
      | inl a0 ↦
          elim (string_verdict (field_at fs 2)) [
            | inl a1 ↦
                let e0 = a0.1 in
                let e1 = a1.1 in
                inl (record { target = a0.0; name = a1.0 }, rw e0 (rw e1 (refl)), record { target = a0.2; name = a1.2 }, λ b m h. (good b 2 text (m) fs (a1.0, a1.2) (good b 1 reference (text ∷ m) fs (a0.0, a0.2) h)))
            | inr b1 ↦ let e0 = a0.1 in let e1 = b1.0 in inr (inr (rw e0 (rw e1 (refl)), λ m h. (unasked true false 2 text (m) fs refl false≢true (good true 1 reference (text ∷ m) fs (a0.0, a0.2) h)), λ m. inr (inl (refl, λ here. b1.1 here.0 here.1))))
          ]
      | inr b0 ↦ let e0 = b0.0 in inr (inl (rw e0 (refl), λ m. inl (refl, λ here. b0.1 here.0 here.1)))
    ]

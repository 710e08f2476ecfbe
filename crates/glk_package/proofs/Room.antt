-- The objects of a package file are in it, each at an offset of its own.
use Rattle.std.proofs.Common.{◌≡◌, ◌≤◌, ◌+◌, ◌-◌, ◌++◌, ℕ, List, [], ◌∷◌, length, drop, All, IfOk, Result, Ok, Err, Option, Some, None, inl, inr, refl, sym, ap, subst, ◌∙◌, arith, length-drop}
use Rattle.std.proofs.lemmas.Bool.{cases_Bool}
use Rattle.std.proofs.lemmas.List.{length-take}
use Rattle.std.proofs.lemmas.List.Elements.{All-nil, All-cons, All-append}
use Rattle.glk_obj.specs.Object.{IsObject}
use Rattle.std.specs.List.{starts_with}
use Rattle.std.specs.Prelude.{nat_eq}
use Rattle.glk_ar.specs.Archive.{Entry, first_offset, IsMemberAt, after, IsRun, body_at}
use Rattle.glk_ar.specs.Member.{header_length, size_of, body_of}
use Rattle.glk_package.specs.ObjectRules.{ObjectRules, rules_after}
use Rattle.glk_package.specs.ObjectEntry.{ObjectEntry, IsFoundIn, data_bytes}
use Rattle.glk_package.specs.Members.{IsObjectIn, AreObjectsOf, AreObjects}
use Rattle.glk_package.specs.Package.{bare_start, BareFile, ArchiveFile, PackageFile}
use Rattle.glk_package.proofs.BodiesAt.{found, whole_at, body_is_at}

data_append : (xs ys : List ObjectEntry) → data_bytes (xs ++ ys) ≡ data_bytes xs + data_bytes ys
unfolding data_bytes
data_append [] ys = omega arith
data_append (x ∷ xs) ys = let h = data_append xs ys in omega (arith, h)

data_one : (x : ObjectEntry) → data_bytes (x ∷ []) ≡ length x.goobj
unfolding data_bytes
data_one x = omega arith

data_none : data_bytes [] ≡ 0
unfolding data_bytes
data_none = refl

-- an object is no longer than its body
in_body : (rules : ObjectRules) (n at : ℕ) (name : Option (List ℕ)) (body : List ℕ) (object : ObjectEntry) → IsObjectIn rules n at name body object → length object.goobj ≤ length body
in_body rules n at name body object h =
    let own : length object.goobj ≡ length h.part.goobj = ap (λ o. length o.goobj) h.is in
    let part : length h.part.goobj ≡ length (drop h.part.at body) = ap length h.holds.goobj in
    omega (arith, own, part, length-drop h.part.at body)

of_member : (rules : ObjectRules) (n : ℕ) (e : Entry) (objects : List ObjectEntry) → AreObjectsOf rules n e objects → data_bytes objects ≤ length e.body
of_member rules n e objects (inl passed) = let none : data_bytes objects ≡ 0 = ap data_bytes passed.1 ∙ data_none in omega (arith, none)
of_member rules n e objects (inr held) =
    let one : data_bytes objects ≡ length held.1.goobj = ap data_bytes held.3 ∙ data_one held.1 in
    let short = in_body rules n (body_at e) (Some e.name) e.body held.1 held.2 in
    omega (arith, one, short)

-- a body is before the next member
body_room : (file : List ℕ) (p : ℕ) (e : Entry) → IsMemberAt file p e → p + length e.body ≤ after file p
body_room file p e m =
    let room : header_length + size_of (drop p file) ≤ length (drop p file) = m.member 5 in
    let rest : length (drop p file) ≡ length file - p = length-drop p file in
    let body : length e.body ≡ length (body_of (drop p file)) = ap (λ x. length x.body) m.entry in
    let short : length (body_of (drop p file)) ≤ size_of (drop p file) = omega (arith, length-take (size_of (drop p file)) (drop header_length (drop p file))) in
    omega (arith, room, rest, body, short, m.inside)

of_members : (rules : ObjectRules) (file : List ℕ) (p n : ℕ) (es : List Entry) (objects : List ObjectEntry) → IsRun file p es None → AreObjects rules n es objects → p + data_bytes objects ≤ length file
of_members rules file p n [] objects run are = let none : data_bytes objects ≡ 0 = ap data_bytes are ∙ data_none in omega (arith, none, run)
of_members rules file p n (e ∷ es) objects run are =
    let here = of_member rules n e are.0 are.2 in
    let room = body_room file p e run.0 in
    let later = of_members (rules_after rules are.0) file (after file p) (n + 1) es are.1 run.1 are.3 in
    let sum : data_bytes objects ≡ data_bytes are.0 + data_bytes are.1 = ap data_bytes are.4 ∙ data_append are.0 are.1 in
    omega (arith, here, room, later, sum)

pub fit : (rules : ObjectRules) (file : List ℕ) (objects : List ObjectEntry) → PackageFile rules file (Ok objects) → data_bytes objects ≤ length file
fit rules file objects h =
    elim (cases_Bool (starts_with nat_eq file bare_start)) [
      | inl bare ↦
          let b : BareFile rules file (Ok objects) = rw bare at h in
          let one : data_bytes objects ≡ length b.0.goobj = ap data_bytes b.2 ∙ data_one b.0 in
          let short = in_body rules 0 0 None file b.0 b.1 in
          omega (arith, one, short)
      | inr archive ↦
          let a : ArchiveFile rules file (Ok objects) = rw archive at h in
          let all = of_members rules file first_offset 0 a.0 objects a.1.1 a.2 in
          omega (arith, all)
    ]

-- each of them is an object
is_object : (rules : ObjectRules) (n at : ℕ) (name : Option (List ℕ)) (body : List ℕ) (object : ObjectEntry) → IsObjectIn rules n at name body object → IsObject object.goobj
is_object rules n at name body object h = subst (λ (p : ObjectEntry). IsObject p.goobj) (sym h.is) h.whole

abbrev Whole : ObjectEntry → Type 0
Whole p = IsObject p.goobj

whole_of_member : (rules : ObjectRules) (n : ℕ) (e : Entry) (packed : List ObjectEntry) → AreObjectsOf rules n e packed → All Whole packed
whole_of_member rules n e packed (inl passed) = rw passed.1 (All-nil Whole)
whole_of_member rules n e packed (inr held) = rw held.3 (All-cons Whole held.1 [] (is_object rules n (body_at e) (Some e.name) e.body held.1 held.2) (All-nil Whole))

whole_of_members : (rules : ObjectRules) (n : ℕ) (es : List Entry) (packed : List ObjectEntry) → AreObjects rules n es packed → All Whole packed
whole_of_members rules n [] packed none = rw none (All-nil Whole)
whole_of_members rules n (e ∷ es) packed are =
    rw are.4 (All-append Whole are.0 are.1 (whole_of_member rules n e are.0 are.2) (whole_of_members (rules_after rules are.0) (n + 1) es are.1 are.3))

pub whole : (rules : ObjectRules) (file : List ℕ) (packed : List ObjectEntry) → PackageFile rules file (Ok packed) → All (λ p. IsObject p.goobj) packed
whole rules file packed h =
    elim (cases_Bool (starts_with nat_eq file bare_start)) [
      | inl bare ↦
          let b : BareFile rules file (Ok packed) = rw bare at h in
          rw b.2 (All-cons Whole b.0 [] (is_object rules 0 0 None file b.0 b.1) (All-nil Whole))
      | inr archive ↦ let a : ArchiveFile rules file (Ok packed) = rw archive at h in whole_of_members rules 0 a.0 packed a.2
    ]

-- each of them is where it says
found_in_member : (rules : ObjectRules) (file : List ℕ) (p n : ℕ) (e : Entry) (packed : List ObjectEntry) → IsMemberAt file p e → AreObjectsOf rules n e packed → All (IsFoundIn file) packed
found_in_member rules file p n e packed member (inl passed) = rw passed.1 (All-nil (IsFoundIn file))
found_in_member rules file p n e packed member (inr held) =
    rw held.3
    (All-cons (IsFoundIn file) held.1 [] (found rules n (body_at e) (Some e.name) file e.body held.1 held.2 (body_is_at file p e member)) (All-nil (IsFoundIn file)))

found_in_members : (rules : ObjectRules) (file : List ℕ) (p n : ℕ) (es : List Entry) (packed : List ObjectEntry) → IsRun file p es None → AreObjects rules n es packed → All (IsFoundIn file) packed
found_in_members rules file p n [] packed run none = rw none (All-nil (IsFoundIn file))
found_in_members rules file p n (e ∷ es) packed run are =
    rw are.4
    (All-append (IsFoundIn file) are.0 are.1 (found_in_member rules file p n e are.0 run.0 are.2)
    (found_in_members (rules_after rules are.0) file (after file p) (n + 1) es are.1 run.1 are.3))

pub all_found : (rules : ObjectRules) (file : List ℕ) (packed : List ObjectEntry) → PackageFile rules file (Ok packed) → All (IsFoundIn file) packed
all_found rules file packed h =
    elim (cases_Bool (starts_with nat_eq file bare_start)) [
      | inl bare ↦
          let b : BareFile rules file (Ok packed) = rw bare at h in
          rw b.2 (All-cons (IsFoundIn file) b.0 [] (found rules 0 0 None file file b.0 b.1 (whole_at file)) (All-nil (IsFoundIn file)))
      | inr archive ↦
          let a : ArchiveFile rules file (Ok packed) = rw archive at h in
          found_in_members rules file first_offset 0 a.0 packed a.1.1 a.2
    ]

-- what holds of each answer of one sort holds of what follows
pub if_ok : {T E : Type 0} (P Q : T → Type 0) (r : Result T E) → ((x : T) → P x → Q x) → IfOk r P → IfOk r Q
if_ok P Q (Ok x) f p = f x p
if_ok P Q (Err e) f p = tt

-- There is an answer for each package file.
use Rattle.std.proofs.Common.{◌≡◌, ℕ, zero, suc, ◌+◌, ◌<◌, ◌≤◌, ◌==◌, ◌⊎◌, List, [], ◌∷◌, ◌++◌, length, drop, Bool, true, false, MatchBool, Option, Some, None, Result, Ok, Err, ap, subst, sym, refl, ◌∙◌, inl, inr, add-zero, zero-add, length-append, arith}
use Rattle.std.specs.List.{starts_with, ends_with, before_first}
use Rattle.std.specs.Prelude.{nat_eq}
use Rattle.std.specs.Str.Parse.{AllDigits}
use Rattle.std.specs.Char.{digit_value}
use Rattle.std.proofs.lemmas.Bool.{cases_lt, cases_eq, eqb-true}
use Rattle.std.proofs.lemmas.Bool.Decides.{Decides-eqb}
use Rattle.std.proofs.lemmas.Slice.Eq.{starts_is}
use Rattle.glk_base.specs.declared.rules.RuleFamily.TheVariants as family
use Rattle.glk_base.specs.Rules.{FirstBroken}
use Rattle.glk_ar.specs.declared.walk.ArBad.{ArBad}
use Rattle.glk_ar.specs.Member.{Keeps, BreaksFirst, IsMember, HasHeader, HasEnd, HasSize, HasBody, HasPlainName, header_of, header_end, header_length, size_of, size_field, name_of, system_v_name, bsd_name, rule_offset}
use Rattle.glk_ar.specs.Archive.{Entry, HasMagic, no_magic, magic, entry_at, body_at, IsMemberAt, IsRefused, after, first_offset}
use Rattle.glk_ar.specs.Part.{Part, line_start, mark, mark_rule, newline, HasNoMark, IsMarkAt, IsFirstMark, HoldsPart}
use Rattle.glk_obj.specs.Object.{IsObject}
use Rattle.glk_obj.specs.Blocks.{hash, header_offset}
use Rattle.glk_obj.specs.Records.{hash_width}
use Rattle.glk_obj.specs.Rules.{Breaks}
use Rattle.glk_package.specs.declared.refusal.PackageBad.{PackageBad}
use Rattle.glk_package.specs.declared.refusal.PackageBad.TheVariants as bad
use Rattle.glk_package.specs.HeaderRule.{HeaderRule, any, uniform, exactly, Allows, IsMismatch}
use Rattle.glk_package.specs.WidthRule.{WidthRule, any_width, uniform_width, exactly_width, FitsWidth}
use Rattle.glk_package.specs.ObjectRules.{ObjectRules, rules_after}
use Rattle.glk_package.specs.Members.{IsObjectIn, IsBodyFault, width_rule, description, IsSkipped, AreObjectsOf, archive_fault}
use Rattle.glk_package.specs.Package.{bare_start, IsFaultAt, ArchiveFile, BareFile, PackageFile}
use Rattle.glk_package.specs.ObjectEntry.{ObjectEntry}
use Rattle.glk_package.proofs.BodiesAt.{mark_inside}
use Rattle.glk_package.proofs.RuleAfter.{after_none, after_both}
use Rattle.glk_package.proofs.WalkSteps.{run_of}
use Rattle.glk_package.proofs.Once.{IsStop, IsWalk}
use Rattle.glk_package.proofs.Decided.{IsDecided, all_of, negated, below, at_most, is_true, is_false, same_bytes, matched, HasLeast, least_below}
use Rattle.glk_package.proofs.ObjectDecided.{object_or_fault}

-- What a body holds.

marks : (body : List ℕ) → HasNoMark body ⊎ ((at : ℕ) × IsFirstMark body at)
marks body = turn (least_below (length body) (IsMarkAt body) (λ i. is_true (starts_with nat_eq (drop i body) mark)) (λ i here. let room = mark_inside body i here in omega (arith, room)))
  where
    turn : HasLeast (IsMarkAt body) → HasNoMark body ⊎ ((at : ℕ) × IsFirstMark body at)
    turn (inl (at, l)) = inr (at, record { here = l.holds; earlier = λ k less here. let low = l.least k here in omega (arith, low, less) })
    turn (inr none) = inl none

-- a line is allowed, or another one is asked
allows : (headers : HeaderRule) (line : List ℕ) → Allows headers line ⊎ ((first : List ℕ) × IsMismatch headers first line)
allows any line = inl tt
allows uniform line = inl tt
allows (exactly first) line = elim (same_bytes line first) [
  | inl same ↦ inl same
  | inr other ↦ inr (first, record { asked = refl; other = other })
]

-- a length fits, or not
fits_or_not : (widths : WidthRule) (width : Option ℕ) → IsDecided (FitsWidth widths width)
fits_or_not any_width width = inl tt
fits_or_not uniform_width width = inl tt
fits_or_not (exactly_width first) None = inl tt
fits_or_not (exactly_width first) (Some width) = cases_eq width first

abbrev BodyAnswer : ObjectRules → ℕ → ℕ → Option (List ℕ) → List ℕ → Type 0
BodyAnswer rules n at name body = ((object : ObjectEntry) × IsObjectIn rules n at name body object) ⊎ ((fault : PackageBad) × IsBodyFault rules n at body fault)

abbrev part_at : List ℕ → ℕ → Part
part_at body m = record { line = before_first (λ x. x == newline) body; goobj = drop (m + length mark) body; at = m + length mark }

by_part : (rules : ObjectRules) (n at : ℕ) (name : Option (List ℕ)) (body : List ℕ) (part : Part) → HoldsPart body part → BodyAnswer rules n at name body
by_part rules n at name body part holds = by_line (allows rules.headers part.line)
  where
    by_width : Allows rules.headers part.line → IsObject part.goobj → IsDecided (FitsWidth rules.widths (hash_width part.goobj)) → BodyAnswer rules n at name body
    by_width allowed whole (inl fits) =
        inl (record { member = n; name = name; line = part.line; goobj = part.goobj; at = at + part.at }, record { part = part; holds = holds; allowed = allowed; whole = whole; fits = fits; is = refl })
    by_width allowed whole (inr other) =
        inr (
          bad.Malformed n family.Object width_rule (header_offset hash),
          (
            refl,
            record {
              part = part;
              holds = holds;
              allowed = allowed;
              first = inr (record { whole = whole; other = other; rule_is = refl; offset_is = refl });
            },
          ),
        )

    by_rules : Allows rules.headers part.line → ((rule : ℕ) × (offset : ℕ) × FirstBroken (Breaks part.goobj) rule offset) ⊎ IsObject part.goobj → BodyAnswer rules n at name body
    by_rules allowed (inl (rule, offset, first)) = inr (bad.Malformed n family.Object rule offset, (refl, record { part = part; holds = holds; allowed = allowed; first = inl first }))
    by_rules allowed (inr whole) = by_width allowed whole (fits_or_not rules.widths (hash_width part.goobj))

    by_line : Allows rules.headers part.line ⊎ ((first : List ℕ) × IsMismatch rules.headers first part.line) → BodyAnswer rules n at name body
    by_line (inl allowed) = by_rules allowed (object_or_fault part.goobj)
    by_line (inr (first, mismatch)) = inr (bad.HeaderMismatch n first part.line, (refl, record { part = part; holds = holds; own = refl; mismatch = mismatch }))

some_body : (rules : ObjectRules) (n at : ℕ) (name : Option (List ℕ)) (body : List ℕ) → BodyAnswer rules n at name body
some_body rules n at name body = by_start (is_true (starts_with nat_eq body line_start))
  where
    by_mark : starts_with nat_eq body line_start ≡ true → HasNoMark body ⊎ ((m : ℕ) × IsFirstMark body m) → BodyAnswer rules n at name body
    by_mark start (inl none) = inr (bad.Malformed n family.Archive mark_rule at, (refl, refl, refl, start, none))
    by_mark start (inr (m, first)) =
        by_part rules n at name body (part_at body m) (record { start = start; mark_at = m; first = first; at = refl; goobj = refl; line = refl })

    by_start : IsDecided (starts_with nat_eq body line_start ≡ true) → BodyAnswer rules n at name body
    by_start (inl start) = by_mark start (marks body)
    by_start (inr other) = inr (bad.NotGo n, (refl, other))

-- What is in an archive at an offset.

digits : (text : List ℕ) → IsDecided (AllDigits 10 text)
digits [] = inl tt
digits (c ∷ later) = all_of _ _ (below (digit_value c) 10) (digits later)

keeps : (s : List ℕ) (rule : ℕ) → IsDecided (Keeps s rule)
keeps s rule =
    matched (rule == 2) (HasHeader s) _ (at_most header_length (length s))
    (matched (rule == 3) (HasEnd s) _ (is_true (ends_with nat_eq (header_of s) header_end))
    (matched (rule == 4) (HasSize s) _ (all_of _ _ (below 0 (length (size_field s))) (digits (size_field s)))
    (matched (rule == 5) (HasBody s) _ (at_most (header_length + size_of s) (length s))
    (matched (rule == 6) (HasPlainName s) (Unit {0})
    (all_of _ _ (is_false (starts_with nat_eq (name_of s) system_v_name)) (is_false (starts_with nat_eq (name_of s) bsd_name))) (inl tt)))))

otherwise : (rule other : ℕ) (A B : Type 0) → other < rule → B → MatchBool (rule == other) A B
otherwise rule other A B less b = pick (rule == other) refl
  where
    pick : (t : Bool) → (rule == other) ≡ t → MatchBool t A B
    pick true e = let same = eqb-true rule other e in absurd (omega (arith, same, less))
    pick false e = b

-- there are rules 2 to 6
keeps_late : (s : List ℕ) (rule : ℕ) → 7 ≤ rule → Keeps s rule
keeps_late s rule high =
    otherwise rule 2 (HasHeader s) _ (omega arith)
    (otherwise rule 3 (HasEnd s) _ (omega arith)
    (otherwise rule 4 (HasSize s) _ (omega arith)
    (otherwise rule 5 (HasBody s) _ (omega arith)
    (otherwise rule 6 (HasPlainName s) (Unit {0}) (omega arith) tt))))

member_or_rule : (s : List ℕ) → IsMember s ⊎ ((rule : ℕ) × BreaksFirst s rule)
member_or_rule s = turn (least_below 7 (λ rule. Keeps s rule → ⊥) (λ rule. negated _ (keeps s rule)) early)
  where
    early : (rule : ℕ) → (Keeps s rule → ⊥) → rule < 7
    early rule broken = elim (cases_lt rule 7) [ inl less ↦ less | inr more ↦ absurd (broken (keeps_late s rule more)) ]

    kept : (rule : ℕ) → ((Keeps s rule → ⊥) → ⊥) → Keeps s rule
    kept rule twice = elim (keeps s rule) [ inl k ↦ k | inr broken ↦ absurd (twice broken) ]

    turn : HasLeast (λ rule. Keeps s rule → ⊥) → IsMember s ⊎ ((rule : ℕ) × BreaksFirst s rule)
    turn (inl (rule, l)) = inr (rule, (l.holds, λ k less. kept k (λ broken. let low = l.least k broken in omega (arith, low, less))))
    turn (inr none) = inl (λ rule. kept rule (none rule))

member_or_refusal : (file : List ℕ) (p : ℕ) → p < length file → IsMemberAt file p (entry_at file p) ⊎ ((broken : ArBad) × IsRefused file p broken)
member_or_refusal file p inside = turn (member_or_rule (drop p file))
  where
    turn : IsMember (drop p file) ⊎ ((rule : ℕ) × BreaksFirst (drop p file) rule) → IsMemberAt file p (entry_at file p) ⊎ ((broken : ArBad) × IsRefused file p broken)
    turn (inl member) = inl (record { inside = inside; member = member; entry = refl })
    turn (inr (rule, breaks)) = inr (record { rule = rule; offset = p + rule_offset rule }, record { inside = inside; rule = breaks; offset = refl })

-- The members of a file from p on, with their objects, up to the end or a fault.

abbrev HasWalk : ObjectRules → List ℕ → ℕ → ℕ → Type 0
HasWalk rules file p n = (es : List Entry) × (xs : List ObjectEntry) × (last : Option PackageBad) × IsWalk rules file p n es xs last

stops_here : (rules : ObjectRules) (file : List ℕ) (p n : ℕ) (last : Option PackageBad) → IsStop rules file p n last → HasWalk rules file p n
stops_here rules file p n last stop =
    let P : ℕ → Type 0 = λ k. IsStop rules file p k last in
    let Q : ObjectRules → Type 0 = λ w. IsStop w file p (n + 0) last in
    ([], [], last, record { end_at = p; members = refl; hold = refl; stop = subst Q (sym (after_none rules)) (subst P (sym (add-zero n)) stop) })

walks_on : (rules : ObjectRules) (file : List ℕ) (p n : ℕ) (e : Entry) (here : List ObjectEntry) → IsMemberAt file p e → AreObjectsOf rules n e here
    → HasWalk (rules_after rules here) file (after file p) (n + 1) → HasWalk rules file p n
walks_on rules file p n e here member gives (es, rest, last, walk) =
    let P : ℕ → Type 0 = λ k. IsStop (rules_after rules (here ++ rest)) file walk.end_at k last in
    let Q : ObjectRules → Type 0 = λ w. IsStop w file walk.end_at (n + 1 + length es) last in
    let numbers : n + length (e ∷ es) ≡ n + 1 + length es = omega arith in (
      e ∷ es,
      here ++ rest,
      last,
      record {
        end_at = walk.end_at;
        members = (member, walk.members);
        hold = (here, rest, gives, walk.hold, refl);
        stop = subst P (sym numbers) (subst Q (after_both rules here rest) walk.stop);
      },
    )

-- each member moves on, and not past the end
moves_on : (file : List ℕ) (p : ℕ) → p < length file → (p < after file p) × (after file p ≤ length file)
moves_on file p inside = (omega arith, omega arith)

some_walk : (left : ℕ) (rules : ObjectRules) (file : List ℕ) (p n : ℕ) → p ≤ length file → length file ≤ p + left → HasWalk rules file p n
some_walk zero rules file p n within most = stops_here rules file p n None (omega arith)
some_walk (suc left) rules file p n within most = elim (cases_lt p (length file)) [
  | inr end ↦ stops_here rules file p n None (omega arith)
  | inl inside ↦
      at_offset (λ w q m a b. some_walk left w file q m a b) inside (moves_on file p inside) (member_or_refusal file p inside)
]
  where
    e : Entry
    e = entry_at file p

    further : ((w : ObjectRules) (q m : ℕ) → q ≤ length file → length file ≤ q + left → HasWalk w file q m) → (p < after file p) × (after file p ≤ length file) → IsMemberAt file p e → (here : List ObjectEntry) → AreObjectsOf rules n e here → HasWalk rules file p n
    further go moves member here gives =
        walks_on rules file p n e here member gives (go (rules_after rules here) (after file p) (n + 1) moves.1 (omega (arith, moves.0)))

    by_body : ((w : ObjectRules) (q m : ℕ) → q ≤ length file → length file ≤ q + left → HasWalk w file q m) → (p < after file p) × (after file p ≤ length file) → IsMemberAt file p e → (IsSkipped e → ⊥) → BodyAnswer rules n (body_at e) (Some e.name) e.body → HasWalk rules file p n
    by_body go moves member named (inl (object, is)) = further go moves member (object ∷ []) (inr (named, object, is, refl))
    by_body go moves member named (inr (fault, is)) = stops_here rules file p n (Some fault) (inr (e, member, (named, is)))

    by_name : ((w : ObjectRules) (q m : ℕ) → q ≤ length file → length file ≤ q + left → HasWalk w file q m) → (p < after file p) × (after file p ≤ length file) → IsMemberAt file p e → IsDecided (IsSkipped e) → HasWalk rules file p n
    by_name go moves member (inl skipped) = further go moves member [] (inl (skipped, refl))
    by_name go moves member (inr named) = by_body go moves member named (some_body rules n (body_at e) (Some e.name) e.body)

    at_offset : ((w : ObjectRules) (q m : ℕ) → q ≤ length file → length file ≤ q + left → HasWalk w file q m) → p < length file → (p < after file p) × (after file p ≤ length file) → IsMemberAt file p e ⊎ ((broken : ArBad) × IsRefused file p broken) → HasWalk rules file p n
    at_offset go inside moves (inl member) = by_name go moves member (same_bytes e.name description)
    at_offset go inside moves (inr (broken, is)) = stops_here rules file p n (Some (archive_fault n broken)) (inl (broken, is, refl))

-- a file with the magic is as long
magic_inside : (file : List ℕ) → HasMagic file → first_offset ≤ length file
magic_inside file begins =
    let split : file ≡ magic ++ drop (length magic) file = (starts_is Decides-eqb file magic _ refl).0 begins in
    let long : length file ≡ length magic + length (drop (length magic) file) = ap length split ∙ length-append magic (drop (length magic) file) in
    omega (arith, long)

-- The answers.

some_archive : (rules : ObjectRules) (file : List ℕ) → (answer : Result (List ObjectEntry) PackageBad) × ArchiveFile rules file answer
some_archive rules file = by_magic (is_true (starts_with nat_eq file magic))
  where
    by_end : HasMagic file → (es : List Entry) (xs : List ObjectEntry) (last : Option PackageBad) → IsWalk rules file first_offset 0 es xs last
        → (answer : Result (List ObjectEntry) PackageBad) × ArchiveFile rules file answer
    by_end begins es xs None walk = (Ok xs, (es, (begins, run_of file first_offset es walk.end_at walk.members walk.stop), walk.hold))
    by_end begins es xs (Some fault) walk =
        let P : ℕ → Type 0 = λ k. IsFaultAt (rules_after rules xs) file walk.end_at k fault in (
          Err fault,
          inr (
            begins,
            record {
              before = es;
              at = walk.end_at;
              members = walk.members;
              objects = xs;
              hold = walk.hold;
              fault = subst P (zero-add (length es)) walk.stop;
            },
          ),
        )

    by_walk : HasMagic file → HasWalk rules file first_offset 0 → (answer : Result (List ObjectEntry) PackageBad) × ArchiveFile rules file answer
    by_walk begins (es, xs, last, walk) = by_end begins es xs last walk

    by_magic : IsDecided (HasMagic file) → (answer : Result (List ObjectEntry) PackageBad) × ArchiveFile rules file answer
    by_magic (inl begins) = by_walk begins (some_walk (length file) rules file first_offset 0 (magic_inside file begins) (omega arith))
    by_magic (inr other) = (Err (archive_fault 0 no_magic), inl (other, refl))

some_bare : (rules : ObjectRules) (file : List ℕ) → (answer : Result (List ObjectEntry) PackageBad) × BareFile rules file answer
some_bare rules file = turn (some_body rules 0 0 None file)
  where
    turn : BodyAnswer rules 0 0 None file → (answer : Result (List ObjectEntry) PackageBad) × BareFile rules file answer
    turn (inl (object, is)) = (Ok (object ∷ []), (object, is, refl))
    turn (inr (fault, is)) = (Err fault, is)

by_start : (rules : ObjectRules) (bare : Bool) (file : List ℕ)
    → (answer : Result (List ObjectEntry) PackageBad) × MatchBool bare (BareFile rules file answer) (ArchiveFile rules file answer)
by_start rules true file = some_bare rules file
by_start rules false file = some_archive rules file

pub some_package : (rules : ObjectRules) (file : List ℕ) → (answer : Result (List ObjectEntry) PackageBad) × PackageFile rules file answer
some_package rules file = by_start rules (starts_with nat_eq file bare_start) file

-- There is one answer for a package file.
use Rattle.std.proofs.Common.{◌≡◌, ℕ, ◌+◌, ◌<◌, List, [], ◌∷◌, ◌++◌, length, Bool, true, false, MatchBool, Option, Some, None, Result, Ok, Err, ap, subst, sym, refl, ◌∙◌, inl, inr, add-zero, zero-add, arith}
use Rattle.std.specs.List.{starts_with}
use Rattle.std.specs.Prelude.{nat_eq}
use Rattle.glk_base.specs.declared.rules.RuleFamily.TheVariants as family
use Rattle.glk_base.proofs.RuleLaws.{one_first, IsSameRule}
use Rattle.glk_ar.specs.Archive.{Entry, IsMemberAt, IsRun, after, first_offset}
use Rattle.glk_ar.specs.Part.{Part, HoldsPart}
use Rattle.glk_ar.proofs.Once.{one_refusal, one_part}
use Rattle.glk_obj.specs.Object.{IsObject}
use Rattle.glk_obj.specs.Records.{hash_width}
use Rattle.glk_obj.specs.Rules.{Breaks}
use Rattle.glk_obj.proofs.Objects.{refused}
use Rattle.glk_package.specs.declared.refusal.PackageBad.{PackageBad}
use Rattle.glk_package.specs.declared.refusal.PackageBad.TheVariants as bad
use Rattle.glk_package.specs.HeaderRule.{HeaderRule, exactly, Allows}
use Rattle.glk_package.specs.WidthRule.{WidthRule, FitsWidth}
use Rattle.glk_package.specs.ObjectRules.{ObjectRules, rules_after}
use Rattle.glk_package.specs.Members.{IsObjectIn, IsObjectFault, HasMismatch, IsBodyFault, AreObjectsOf, AreObjects, IsMemberFault, archive_fault}
use Rattle.glk_package.specs.Package.{bare_start, AreMembers, IsFaultAt, IsFirstFault, ArchiveFile, BareFile, PackageFile}
use Rattle.glk_package.specs.ObjectEntry.{ObjectEntry}
use Rattle.glk_package.proofs.RuleAfter.{after_none, after_both}

-- a line that is allowed is no other one
allowed_line : (rules : ObjectRules) (body first here : List ℕ) (part : Part) → HoldsPart body part → Allows rules.headers part.line → HasMismatch rules body first here → ⊥
allowed_line rules body first here part holds allowed is =
    let P : HeaderRule → Type 0 = λ w. Allows w part.line in
    let line : part.line ≡ first = subst P is.mismatch.asked allowed in
    let own : is.part.line ≡ part.line = ap (λ p. p.line) (one_part body is.part part is.holds holds) in
    is.mismatch.other (is.own ∙ own ∙ line)

-- a body holds one object,
pub one_object : (rules : ObjectRules) (n at : ℕ) (name : Option (List ℕ)) (body : List ℕ) (one other : ObjectEntry) → IsObjectIn rules n at name body one → IsObjectIn rules n at name body other → one ≡ other
one_object rules n at name body one other first second =
    let packed : Part → ObjectEntry = λ p. record { member = n; name = name; line = p.line; goobj = p.goobj; at = at + p.at } in
    let parts : first.part ≡ second.part = one_part body first.part second.part first.holds second.holds in
    first.is ∙ ap packed parts ∙ sym second.is

-- or has a fault,
no_object_fault : (widths : WidthRule) (goobj : List ℕ) (rule offset : ℕ) → IsObjectFault widths goobj rule offset → IsObject goobj → FitsWidth widths (hash_width goobj) → ⊥
no_object_fault widths goobj rule offset (inl first) whole fits = refused goobj rule offset first whole
no_object_fault widths goobj rule offset (inr breaks) whole fits = breaks.other fits

one_object_fault : (widths : WidthRule) (goobj : List ℕ) (rule other offset at : ℕ) → IsObjectFault widths goobj rule offset → IsObjectFault widths goobj other at → IsSameRule rule other offset at
one_object_fault widths goobj rule other offset at (inl one) (inl second) = one_first (Breaks goobj) rule other offset at one second
one_object_fault widths goobj rule other offset at (inl one) (inr second) = absurd (refused goobj rule offset one second.whole)
one_object_fault widths goobj rule other offset at (inr one) (inl second) = absurd (refused goobj other at second one.whole)
one_object_fault widths goobj rule other offset at (inr one) (inr second) =
    record { rules = one.rule_is ∙ sym second.rule_is; offsets = one.offset_is ∙ sym second.offset_is }

pub no_fault : (rules : ObjectRules) (n at : ℕ) (name : Option (List ℕ)) (body : List ℕ) (object : ObjectEntry) (fault : PackageBad) → IsObjectIn rules n at name body object → IsBodyFault rules n at body fault → ⊥
no_fault rules n at name body object (bad.NotGo m) is fault = fault.1 is.holds.start
no_fault rules n at name body object (bad.HeaderMismatch m line here) is fault = allowed_line rules body line here is.part is.holds is.allowed fault.1
no_fault rules n at name body object (bad.Malformed m family.Archive rule offset) is fault = fault.4 is.holds.mark_at is.holds.first.here
no_fault rules n at name body object (bad.Malformed m family.Object rule offset) is fault =
    let parts : is.part ≡ fault.1.part = one_part body is.part fault.1.part is.holds fault.1.holds in
    let P : Part → Type 0 = λ p. IsObject p.goobj in
    let Q : Part → Type 0 = λ p. FitsWidth rules.widths (hash_width p.goobj) in
    no_object_fault rules.widths fault.1.part.goobj rule offset fault.1.first (subst P parts is.whole) (subst Q parts is.fits)

-- which is one.
pub one_other_line : (rules : ObjectRules) (body first here line own : List ℕ) → HasMismatch rules body first here → HasMismatch rules body line own → (first ≡ line) × (here ≡ own)
one_other_line rules body first here line own one other =
    let wants : exactly first ≡ exactly line = sym one.mismatch.asked ∙ other.mismatch.asked in
    let parts : one.part ≡ other.part = one_part body one.part other.part one.holds other.holds in
    (cc, one.own ∙ ap (λ p. p.line) parts ∙ sym other.own)

pub one_body_fault : (rules : ObjectRules) (n at : ℕ) (body : List ℕ) (one other : PackageBad) → IsBodyFault rules n at body one → IsBodyFault rules n at body other → one ≡ other
one_body_fault rules n at body (bad.NotGo m) (bad.NotGo k) first second = ap (λ i. bad.NotGo i) (first.0 ∙ sym second.0)
one_body_fault rules n at body (bad.NotGo m) (bad.HeaderMismatch k line here) first second = absurd (first.1 second.1.holds.start)
one_body_fault rules n at body (bad.NotGo m) (bad.Malformed k family.Archive rule offset) first second = absurd (first.1 second.3)
one_body_fault rules n at body (bad.NotGo m) (bad.Malformed k family.Object rule offset) first second = absurd (first.1 second.1.holds.start)
one_body_fault rules n at body (bad.HeaderMismatch m line here) (bad.NotGo k) first second = absurd (second.1 first.1.holds.start)
one_body_fault rules n at body (bad.HeaderMismatch m line here) (bad.HeaderMismatch k wants own) first second =
    let members : m ≡ k = first.0 ∙ sym second.0 in
    let lines = one_other_line rules body line here wants own first.1 second.1 in
    let others : line ≡ wants = lines.0 in
    let owns : here ≡ own = lines.1 in
    cc
one_body_fault rules n at body (bad.HeaderMismatch m line here) (bad.Malformed k family.Archive r o) first second =
    absurd (second.4 first.1.holds.mark_at first.1.holds.first.here)
one_body_fault rules n at body (bad.HeaderMismatch m line here) (bad.Malformed k family.Object r o) first second =
    absurd (allowed_line rules body line here second.1.part second.1.holds second.1.allowed first.1)
one_body_fault rules n at body (bad.Malformed m family.Archive rule offset) (bad.NotGo k) first second = absurd (second.1 first.3)
one_body_fault rules n at body (bad.Malformed m family.Archive rule offset) (bad.HeaderMismatch k line here) first second =
    absurd (first.4 second.1.holds.mark_at second.1.holds.first.here)
one_body_fault rules n at body (bad.Malformed m family.Archive rule offset) (bad.Malformed k family.Archive r o) first second =
    let members : m ≡ k = first.0 ∙ sym second.0 in
    let rules : rule ≡ r = first.1 ∙ sym second.1 in
    let offsets : offset ≡ o = first.2 ∙ sym second.2 in
    cc
one_body_fault rules n at body (bad.Malformed m family.Archive rule offset) (bad.Malformed k family.Object r o) first second =
    absurd (first.4 second.1.holds.mark_at second.1.holds.first.here)
one_body_fault rules n at body (bad.Malformed m family.Object rule offset) (bad.NotGo k) first second = absurd (second.1 first.1.holds.start)
one_body_fault rules n at body (bad.Malformed m family.Object rule offset) (bad.HeaderMismatch k line here) first second =
    absurd (allowed_line rules body line here first.1.part first.1.holds first.1.allowed second.1)
one_body_fault rules n at body (bad.Malformed m family.Object rule offset) (bad.Malformed k family.Archive r o) first second =
    absurd (second.4 first.1.holds.mark_at first.1.holds.first.here)
one_body_fault rules n at body (bad.Malformed m family.Object rule offset) (bad.Malformed k family.Object r o) first second =
    let parts : first.1.part ≡ second.1.part = one_part body first.1.part second.1.part first.1.holds second.1.holds in
    let P : Part → Type 0 = λ p. IsObjectFault rules.widths p.goobj rule offset in
    let rest : IsSameRule rule r offset o = one_object_fault rules.widths second.1.part.goobj rule r offset o (subst P parts first.1.first) second.1.first in
    let members : m ≡ k = first.0 ∙ sym second.0 in
    let rules : rule ≡ r = rest.rules in
    let offsets : offset ≡ o = rest.offsets in
    cc

-- A member has one list of objects,
pub one_list : (rules : ObjectRules) (n : ℕ) (e : Entry) (xs ys : List ObjectEntry) → AreObjectsOf rules n e xs → AreObjectsOf rules n e ys → xs ≡ ys
one_list rules n e xs ys (inl none) (inl empty) = none.1 ∙ sym empty.1
one_list rules n e xs ys (inl none) (inr some) = absurd (some.0 none.0)
one_list rules n e xs ys (inr some) (inl none) = absurd (some.0 none.0)
one_list rules n e xs ys (inr one) (inr other) =
    one.3 ∙ ap (λ o. o ∷ []) (one_object rules n _ (Some e.name) e.body one.1 other.1 one.2 other.2) ∙ sym other.3

-- or a fault.
pub no_member_fault : (rules : ObjectRules) (n : ℕ) (e : Entry) (xs : List ObjectEntry) (fault : PackageBad) → AreObjectsOf rules n e xs → IsMemberFault rules n e fault → ⊥
no_member_fault rules n e xs fault (inl none) is = is.0 none.0
no_member_fault rules n e xs fault (inr some) is = no_fault rules n _ (Some e.name) e.body some.1 fault some.2 is.1

-- Where the members that hold their objects end: at the end of the file, or at a fault.
abbrev pub IsStop : ObjectRules → List ℕ → ℕ → ℕ → Option PackageBad → Type 0
IsStop rules file p n None = p ≡ length file
IsStop rules file p n (Some fault) = IsFaultAt rules file p n fault

-- at the offset of a member that holds its objects they don't end
no_stop : (rules : ObjectRules) (file : List ℕ) (p n : ℕ) (e : Entry) (xs : List ObjectEntry) (last : Option PackageBad) → IsMemberAt file p e → AreObjectsOf rules n e xs → IsStop rules file p n last → ⊥
no_stop rules file p n e xs None member gives end = let inside : p < length file = member.inside in omega (arith, end)
no_stop rules file p n e xs (Some fault) member gives (inl broken) = broken.1.rule.0 (member.member broken.0.rule)
no_stop rules file p n e xs (Some fault) member gives (inr held) =
    let same : held.0 ≡ e = held.1.entry ∙ sym member.entry in
    let P : Entry → Type 0 = λ d. IsMemberFault rules n d fault in
    no_member_fault rules n e xs fault gives (subst P same held.2)

one_fault_at : (rules : ObjectRules) (file : List ℕ) (p n : ℕ) (one other : PackageBad) → IsFaultAt rules file p n one → IsFaultAt rules file p n other → one ≡ other
one_fault_at rules file p n one other (inl first) (inl second) =
    first.2 ∙ ap (λ broken. archive_fault n broken) (one_refusal file p first.0 second.0 first.1 second.1) ∙ sym second.2
one_fault_at rules file p n one other (inl first) (inr second) = absurd (first.1.rule.0 (second.1.member first.0.rule))
one_fault_at rules file p n one other (inr first) (inl second) = absurd (second.1.rule.0 (first.1.member second.0.rule))
one_fault_at rules file p n one other (inr first) (inr second) =
    let same : first.0 ≡ second.0 = first.1.entry ∙ sym second.1.entry in
    let P : Entry → Type 0 = λ d. IsMemberFault rules n d one in
    let moved : IsMemberFault rules n second.0 one = subst P same first.2 in
    one_body_fault rules n _ second.0.body one other moved.1 second.2.1

one_stop : (rules : ObjectRules) (file : List ℕ) (p n : ℕ) (last end : Option PackageBad) → IsStop rules file p n last → IsStop rules file p n end → last ≡ end
one_stop rules file p n None None first second = refl
one_stop rules file p n None (Some fault) end (inl broken) = let inside : p < length file = broken.1.inside in absurd (omega (arith, end))
one_stop rules file p n None (Some fault) end (inr held) = let inside : p < length file = held.1.inside in absurd (omega (arith, end))
one_stop rules file p n (Some fault) None (inl broken) end = let inside : p < length file = broken.1.inside in absurd (omega (arith, end))
one_stop rules file p n (Some fault) None (inr held) end = let inside : p < length file = held.1.inside in absurd (omega (arith, end))
one_stop rules file p n (Some fault) (Some other) first second = ap (λ f. Some f) (one_fault_at rules file p n fault other first second)

-- Two walks from one offset pass the same objects and end alike.
pub record IsSame (xs ys : List ObjectEntry) (last end : Option PackageBad) : Type 0 where
  pub objects : xs ≡ ys
  pub ends : last ≡ end

-- a walk from p on, where member n begins
pub record IsWalk (rules : ObjectRules) (file : List ℕ) (p n : ℕ) (es : List Entry) (xs : List ObjectEntry) (last : Option PackageBad) : Type 0 where
  pub end_at : ℕ
  pub members : AreMembers file p es end_at
  pub hold : AreObjects rules n es xs
  pub stop : IsStop (rules_after rules xs) file end_at (n + length es) last

-- one without members ends where it begins
stop_here : (rules : ObjectRules) (file : List ℕ) (p n : ℕ) (xs : List ObjectEntry) (last : Option PackageBad) → IsWalk rules file p n [] xs last → IsStop rules file p n last
stop_here rules file p n xs last walk =
    let rule : rules_after rules xs ≡ rules = ap (λ os. rules_after rules os) walk.hold ∙ after_none rules in
    let P : ℕ → Type 0 = λ k. IsStop (rules_after rules xs) file walk.end_at k last in
    let Q : ℕ → Type 0 = λ q. IsStop (rules_after rules xs) file q n last in
    let R : ObjectRules → Type 0 = λ w. IsStop w file p n last in
    subst R rule (subst Q (sym walk.members) (subst P (add-zero n) walk.stop))

-- one with a member goes on after it
goes_on : (rules : ObjectRules) (file : List ℕ) (p n : ℕ) (e : Entry) (es : List Entry) (xs : List ObjectEntry) (last : Option PackageBad) → (walk : IsWalk rules file p n (e ∷ es) xs last)
    → IsWalk (rules_after rules walk.hold.0) file (after file p) (n + 1) es walk.hold.1 last
goes_on rules file p n e es xs last walk =
    let rule : rules_after rules xs ≡ rules_after (rules_after rules walk.hold.0) walk.hold.1 =
    ap (λ os. rules_after rules os) walk.hold.4 ∙ sym (after_both rules walk.hold.0 walk.hold.1) in
    let P : ℕ → Type 0 = λ k. IsStop (rules_after rules xs) file walk.end_at k last in
    let Q : ObjectRules → Type 0 = λ w. IsStop w file walk.end_at (n + 1 + length es) last in
    let numbers : n + length (e ∷ es) ≡ n + 1 + length es = omega arith in
    record { end_at = walk.end_at; members = walk.members.1; hold = walk.hold.3; stop = subst Q rule (subst P numbers walk.stop) }

pub one_walk : (rules : ObjectRules) (file : List ℕ) (p n : ℕ) (es ds : List Entry) (xs ys : List ObjectEntry) (last end : Option PackageBad) → IsWalk rules file p n es xs last → IsWalk rules file p n ds ys end → IsSame xs ys last end
one_walk rules file p n [] [] xs ys last end first second =
    record { objects = first.hold ∙ sym second.hold; ends = one_stop rules file p n last end (stop_here rules file p n xs last first) (stop_here rules file p n ys end second) }
one_walk rules file p n [] (d ∷ ds) xs ys last end first second = absurd (no_stop rules file p n d second.hold.0 last second.members.0 second.hold.2 (stop_here rules file p n xs last first))
one_walk rules file p n (e ∷ es) [] xs ys last end first second = absurd (no_stop rules file p n e first.hold.0 end first.members.0 first.hold.2 (stop_here rules file p n ys end second))
one_walk rules file p n (e ∷ es) (d ∷ ds) xs ys last end first second =
    let here : d ≡ e = second.members.0.entry ∙ sym first.members.0.entry in
    let P : Entry → Type 0 = λ f. AreObjectsOf rules n f second.hold.0 in
    let lists : first.hold.0 ≡ second.hold.0 = one_list rules n e first.hold.0 second.hold.0 first.hold.2 (subst P here second.hold.2) in
    let further : ObjectRules = rules_after rules first.hold.0 in
    let Q : List ObjectEntry → Type 0 = λ os. IsWalk (rules_after rules os) file (after file p) (n + 1) ds second.hold.1 end in
    let walk : IsWalk further file (after file p) (n + 1) ds second.hold.1 end = subst Q (sym lists) (goes_on rules file p n d ds ys end second) in
    let rest : IsSame first.hold.1 second.hold.1 last end =
    one_walk further file (after file p) (n + 1) es ds first.hold.1 second.hold.1 last end (goes_on rules file p n e es xs last first) walk in
    let objects : first.hold.0 ++ first.hold.1 ≡ second.hold.0 ++ second.hold.1 = ap (λ l. l ++ first.hold.1) lists ∙ ap (λ l. second.hold.0 ++ l) rest.objects in
    record { objects = first.hold.4 ∙ objects ∙ sym second.hold.4; ends = rest.ends }

-- The answer for an archive of objects is a walk from its first member on.
members_of : (file : List ℕ) (p : ℕ) (es : List Entry) → IsRun file p es None → AreMembers file p es (length file)
members_of file p [] end = end
members_of file p (e ∷ es) run = (run.0, members_of file (after file p) es run.1)

whole_walk : (rules : ObjectRules) (file : List ℕ) (xs : List ObjectEntry) → (is : ArchiveFile rules file (Ok xs)) → IsWalk rules file first_offset 0 is.0 xs None
whole_walk rules file xs is = record { end_at = length file; members = members_of file first_offset is.0 is.1.1; hold = is.2; stop = refl }

fault_walk : (rules : ObjectRules) (file : List ℕ) (fault : PackageBad) → (is : IsFirstFault rules file fault) → IsWalk rules file first_offset 0 is.before is.objects (Some fault)
fault_walk rules file fault is =
    let P : ℕ → Type 0 = λ k. IsFaultAt (rules_after rules is.objects) file is.at k fault in
    record { end_at = is.at; members = is.members; hold = is.hold; stop = subst P (sym (zero-add (length is.before))) is.fault }

-- all members and a first fault are not both there
not_both : (rules : ObjectRules) (file : List ℕ) (xs : List ObjectEntry) (fault : PackageBad) → ArchiveFile rules file (Ok xs) → IsFirstFault rules file fault → ⊥
not_both rules file xs fault whole is =
    let same : IsSame xs is.objects None (Some fault) = one_walk rules file first_offset 0 whole.0 is.before xs is.objects None (Some fault) (whole_walk rules file xs whole) (fault_walk rules file fault is) in
    let none : Option PackageBad = None in
    let e : none ≡ Some fault = same.ends in
    cc

pub one_archive_file : (rules : ObjectRules) (file : List ℕ) (one other : Result (List ObjectEntry) PackageBad) → ArchiveFile rules file one → ArchiveFile rules file other → one ≡ other
one_archive_file rules file (Ok xs) (Ok ys) first second =
    ap (λ r. Ok r) (one_walk rules file first_offset 0 first.0 second.0 xs ys None None (whole_walk rules file xs first) (whole_walk rules file ys second)).objects
one_archive_file rules file (Ok xs) (Err fault) first (inl none) = absurd (none.0 first.1.0)
one_archive_file rules file (Ok xs) (Err fault) first (inr is) = absurd (not_both rules file xs fault first is.1)
one_archive_file rules file (Err fault) (Ok ys) (inl none) second = absurd (none.0 second.1.0)
one_archive_file rules file (Err fault) (Ok ys) (inr is) second = absurd (not_both rules file ys fault second is.1)
one_archive_file rules file (Err fault) (Err worse) (inl none) (inl other) = ap (λ r. Err r) (none.1 ∙ sym other.1)
one_archive_file rules file (Err fault) (Err worse) (inl none) (inr is) = absurd (none.0 is.0)
one_archive_file rules file (Err fault) (Err worse) (inr is) (inl none) = absurd (none.0 is.0)
one_archive_file rules file (Err fault) (Err worse) (inr is) (inr other) =
    let same : IsSame is.1.objects other.1.objects (Some fault) (Some worse) = one_walk rules file first_offset 0 is.1.before other.1.before is.1.objects other.1.objects (Some fault) (Some worse) (fault_walk rules file fault is.1) (fault_walk rules file worse other.1) in
    let e : Some fault ≡ Some worse = same.ends in
    let f : fault ≡ worse = cc in
    ap (λ r. Err r) f

pub one_bare_file : (rules : ObjectRules) (file : List ℕ) (one other : Result (List ObjectEntry) PackageBad) → BareFile rules file one → BareFile rules file other → one ≡ other
one_bare_file rules file (Ok xs) (Ok ys) first second =
    ap (λ r. Ok r) (first.2 ∙ ap (λ o. o ∷ []) (one_object rules 0 0 None file first.0 second.0 first.1 second.1) ∙ sym second.2)
one_bare_file rules file (Ok xs) (Err fault) first second = absurd (no_fault rules 0 0 None file first.0 fault first.1 second)
one_bare_file rules file (Err fault) (Ok ys) first second = absurd (no_fault rules 0 0 None file second.0 fault second.1 first)
one_bare_file rules file (Err fault) (Err worse) first second = ap (λ r. Err r) (one_body_fault rules 0 0 file fault worse first second)

by_start : (rules : ObjectRules) (bare : Bool) (file : List ℕ) (one other : Result (List ObjectEntry) PackageBad) → MatchBool bare (BareFile rules file one) (ArchiveFile rules file one) → MatchBool bare (BareFile rules file other) (ArchiveFile rules file other) → one ≡ other
by_start rules true file one other first second = one_bare_file rules file one other first second
by_start rules false file one other first second = one_archive_file rules file one other first second

pub one_package : (rules : ObjectRules) (file : List ℕ) (one other : Result (List ObjectEntry) PackageBad) → PackageFile rules file one → PackageFile rules file other → one ≡ other
one_package rules file one other first second = by_start rules (starts_with nat_eq file bare_start) file one other first second

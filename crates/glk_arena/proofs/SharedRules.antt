-- What is stored of objects that are found by themselves, under rules that their first line and their first length of long hashes meet.
use Rattle.std.proofs.Common.{◌≡◌, ◌∙◌, ◌⊎◌, ◌+◌, ℕ, List, [], ◌∷◌, ◌++◌, map, Bool, true, false, MatchBool, Option, Some, None, Ok, IfSome, inl, inr, refl, sym, ap, subst}
use Rattle.std.specs.List.{starts_with}
use Rattle.std.specs.Option.{option_or}
use Rattle.std.specs.Prelude.{nat_eq}
use Rattle.glk_ar.specs.Archive.{Entry, body_at}
use Rattle.glk_obj.specs.Records.{hash_width}
use Rattle.glk_package.specs.ObjectEntry.{ObjectEntry}
use Rattle.glk_package.specs.HeaderRule.{HeaderRule, any, uniform, exactly, Allows, first_line, header_after}
use Rattle.glk_package.specs.WidthRule.{WidthRule, any_width, uniform_width, exactly_width, FitsWidth, first_width, width_or_open, width_after}
use Rattle.glk_package.specs.ObjectRules.{ObjectRules, rules_after, uniform_rules}
use Rattle.glk_package.specs.Members.{IsObjectIn, AreObjectsOf, AreObjects}
use Rattle.glk_package.specs.Package.{bare_start, BareFile, ArchiveFile}
use Rattle.glk_package.proofs.RuleAfter.{after_none}
use Rattle.glk_arena.specs.declared.stored.StoredObjects.{StoredObjects}
use Rattle.glk_arena.specs.LoadParts.{HoldsStored}
use Rattle.glk_arena.specs.WaveFiles.{MeetsRules}

-- What the one rule allows of lines of which this is the first, the other allows: they are one, or the other allows any, or the one
-- is open and the other allows the first.
abbrev LinesPass : HeaderRule → HeaderRule → Option (List ℕ) → Type 0
LinesPass own asked first = (own ≡ asked) ⊎ ((asked ≡ any) ⊎ ((own ≡ uniform) × IfSome first (Allows asked)))

line_passes : (own asked : HeaderRule) (line : List ℕ) → LinesPass own asked (Some line) → Allows own line → Allows asked line
line_passes own asked line (inl e) is = subst (λ h. Allows h line) e is
line_passes own asked line (inr (inl e)) is = subst (λ h. Allows h line) (sym e) tt
line_passes own asked line (inr (inr p)) is = p.1

-- so behind an object with the first line
line_settled : (asked : HeaderRule) (x : ObjectEntry) (later : Option (List ℕ)) → Allows asked x.line → LinesPass (exactly x.line) (header_after asked (x ∷ [])) later
line_settled any x later is = inr (inl refl)
line_settled uniform x later is = inl refl
line_settled (exactly first) x later is = inl (ap exactly is)

lines_on : (own asked : HeaderRule) (x : ObjectEntry) (later : Option (List ℕ)) → LinesPass own asked (Some x.line) → LinesPass (header_after own (x ∷ [])) (header_after asked (x ∷ [])) later
lines_on own asked x later (inl e) = inl (ap (λ h. header_after h (x ∷ [])) e)
lines_on own asked x later (inr (inl e)) = inr (inl (ap (λ h. header_after h (x ∷ [])) e))
lines_on own asked x later (inr (inr p)) =
    subst (λ h. LinesPass (header_after h (x ∷ [])) (header_after asked (x ∷ [])) later) (sym p.0) (line_settled asked x later p.1)

-- the same of lengths of long hashes
abbrev WidthsPass : WidthRule → WidthRule → Option ℕ → Type 0
WidthsPass own asked first = (own ≡ asked) ⊎ ((asked ≡ any_width) ⊎ ((own ≡ uniform_width) × FitsWidth asked first))

first_fits : (asked : WidthRule) (width later : Option ℕ) → FitsWidth asked (option_or width later) → FitsWidth asked width
first_fits any_width width later is = tt
first_fits uniform_width width later is = tt
first_fits (exactly_width first) None later is = tt
first_fits (exactly_width first) (Some width) later is = is

width_passes : (own asked : WidthRule) (width later : Option ℕ) → WidthsPass own asked (option_or width later) → FitsWidth own width → FitsWidth asked width
width_passes own asked width later (inl e) is = subst (λ r. FitsWidth r width) e is
width_passes own asked width later (inr (inl e)) is = subst (λ r. FitsWidth r width) (sym e) tt
width_passes own asked width later (inr (inr p)) is = first_fits asked width later p.1

-- the rule behind one object, whose long hashes have this length
abbrev width_behind_one : WidthRule → Option ℕ → WidthRule
width_behind_one any_width width = any_width
width_behind_one uniform_width width = width_or_open (option_or width None)
width_behind_one (exactly_width first) width = exactly_width first

behind_one : (widths : WidthRule) (x : ObjectEntry) → width_after widths (x ∷ []) ≡ width_behind_one widths (hash_width x.goobj)
behind_one any_width x = refl
behind_one uniform_width x = refl
behind_one (exactly_width first) x = refl

width_settled : (asked : WidthRule) (width later : Option ℕ) → FitsWidth asked (option_or width later)
    → WidthsPass (width_or_open (option_or width None)) (width_behind_one asked width) later
width_settled any_width width later is = inr (inl refl)
width_settled uniform_width width later is = inl refl
width_settled (exactly_width first) None later is = inr (inr (refl, is))
width_settled (exactly_width first) (Some width) later is = inl (ap exactly_width is)

widths_on : (own asked : WidthRule) (width later : Option ℕ) → WidthsPass own asked (option_or width later) → WidthsPass (width_behind_one own width) (width_behind_one asked width) later
widths_on own asked width later (inl e) = inl (ap (λ r. width_behind_one r width) e)
widths_on own asked width later (inr (inl e)) = inr (inl (ap (λ r. width_behind_one r width) e))
widths_on own asked width later (inr (inr p)) =
    subst (λ r. WidthsPass (width_behind_one r width) (width_behind_one asked width) later) (sym p.0) (width_settled asked width later p.1)

-- the data of objects
abbrev data_of : List ObjectEntry → List (List ℕ)
data_of objects = map (λ o. o.goobj) objects

-- both, of objects
record Passes (own asked : ObjectRules) (objects : List ObjectEntry) : Type 0 where
  lines : LinesPass own.headers asked.headers (first_line objects)
  widths : WidthsPass own.widths asked.widths (first_width (data_of objects))

passes_on : (own asked : ObjectRules) (x : ObjectEntry) (later : List ObjectEntry) → Passes own asked (x ∷ later) → Passes (rules_after own (x ∷ [])) (rules_after asked (x ∷ [])) later
passes_on own asked x later p =
    let W : WidthRule → WidthRule → Type 0 = λ o a. WidthsPass o a (first_width (data_of later)) in
    let moved = widths_on own.widths asked.widths (hash_width x.goobj) (first_width (data_of later)) p.widths in
    record {
      lines = lines_on own.headers asked.headers x (first_line later) p.lines;
      widths = subst (λ o. W o (width_after asked.widths (x ∷ []))) (sym (behind_one own.widths x))
          (subst (λ a. W (width_behind_one own.widths (hash_width x.goobj)) a) (sym (behind_one asked.widths x)) moved);
    }

-- One object, the objects of members, and those of a file are what they are by the other rules.
object_passes : (own asked : ObjectRules) (n at : ℕ) (name : Option (List ℕ)) (body : List ℕ) (object : ObjectEntry) (later : List ObjectEntry)
    → Passes own asked (object ∷ later) → IsObjectIn own n at name body object → IsObjectIn asked n at name body object
object_passes own asked n at name body object later p is =
    let line : object.line ≡ is.part.line = ap (λ o. o.line) is.is in
    let goobj : object.goobj ≡ is.part.goobj = ap (λ o. o.goobj) is.is in
    record {
      part = is.part;
      holds = is.holds;
      allowed = line_passes own.headers asked.headers is.part.line (subst (λ l. LinesPass own.headers asked.headers (Some l)) line p.lines) is.allowed;
      whole = is.whole;
      fits = width_passes own.widths asked.widths (hash_width is.part.goobj) (first_width (data_of later))
          (subst (λ g. WidthsPass own.widths asked.widths (option_or (hash_width g) (first_width (data_of later)))) goobj p.widths) is.fits;
      is = is.is;
    }

-- the objects from member n on are what they are by the other rules
abbrev MembersPass : ℕ → List Entry → Type 0
MembersPass n es = (own asked : ObjectRules) (objects : List ObjectEntry) → Passes own asked objects → AreObjects own n es objects → AreObjects asked n es objects

member_passes : (own asked : ObjectRules) (n : ℕ) (e : Entry) (es : List Entry) (objects here rest : List ObjectEntry) → MembersPass (n + 1) es → Passes own asked objects
    → AreObjectsOf own n e here → AreObjects (rules_after own here) (n + 1) es rest → objects ≡ here ++ rest → AreObjects asked n (e ∷ es) objects
member_passes own asked n e es objects here rest on p (inl skipped) are all =
    let both : objects ≡ rest = all ∙ ap (λ h. h ++ rest) skipped.1 in
    let left : (rules : ObjectRules) → rules_after rules here ≡ rules = λ rules. ap (λ h. rules_after rules h) skipped.1 ∙ after_none rules in
    let A : ObjectRules → Type 0 = λ r. AreObjects r (n + 1) es rest in
    let moved = on own asked rest (subst (λ os. Passes own asked os) both p) (subst A (left own) are) in
    (here, rest, inl skipped, subst A (sym (left asked)) moved, all)
member_passes own asked n e es objects here rest on p (inr found) are all =
    let x : ObjectEntry = found.1 in
    let both : objects ≡ x ∷ rest = all ∙ ap (λ h. h ++ rest) found.3 in
    let A : ObjectRules → List ObjectEntry → Type 0 = λ r h. AreObjects (rules_after r h) (n + 1) es rest in
    let passes : Passes own asked (x ∷ rest) = subst (λ os. Passes own asked os) both p in
    let moved = on (rules_after own (x ∷ [])) (rules_after asked (x ∷ [])) rest (passes_on own asked x rest passes) (subst (λ h. A own h) found.3 are) in
    (here, rest, inr (found.0, x, object_passes own asked n (body_at e) (Some e.name) e.body x rest passes found.2, found.3), subst (λ h. A asked h) (sym found.3) moved, all)

members_pass : (n : ℕ) (es : List Entry) → MembersPass n es
members_pass n [] = λ own asked objects p are. are
members_pass n (e ∷ es) = λ own asked objects p are. member_passes own asked n e es objects are.0 are.1 (members_pass (n + 1) es) p are.2 are.3 are.4

by_start : (bare : Bool) (own asked : ObjectRules) (file : List ℕ) (objects : List ObjectEntry) → Passes own asked objects
    → MatchBool bare (BareFile own file (Ok objects)) (ArchiveFile own file (Ok objects)) → MatchBool bare (BareFile asked file (Ok objects)) (ArchiveFile asked file (Ok objects))
by_start true own asked file objects p is =
    (is.0, object_passes own asked 0 0 None file is.0 [] (subst (λ os. Passes own asked os) is.2 p) is.1, is.2)
by_start false own asked file objects p is = (is.0, is.1, members_pass 0 is.0 own asked objects p is.2)

-- so is what is stored of them
pub found_meets : (rules : ObjectRules) (file : List ℕ) (found : StoredObjects) → HoldsStored uniform_rules file found → MeetsRules rules file found → HoldsStored rules file found
found_meets rules file found h meets =
    let lines = subst (λ l. IfSome l (Allows rules.headers)) h.stores.header_is meets.line in
    let widths = subst (λ d. FitsWidth rules.widths (first_width d)) h.stores.data_are meets.width in
    record {
      objects = h.objects;
      holds = by_start (starts_with nat_eq file bare_start) uniform_rules rules file h.objects (record { lines = inr (inr (refl, lines)); widths = inr (inr (refl, widths)) }) h.holds;
      stores = h.stores;
    }

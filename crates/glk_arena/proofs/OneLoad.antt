-- Known files load to one answer.
use Rattle.std.proofs.Common.{◌≡◌, ◌-◌, ◌++◌, ◌∙◌, ℕ, List, length, refl, sym, ap, subst, arith, Option, Some, Result, Ok, Err}
use Rattle.glk_base.specs.Limits.{file_limit}
use Rattle.glk_io.specs.Contents.{Contents, file_in}
use Rattle.glk_cause.specs.declared.cause.Cause.{Cause}
use Rattle.glk_cause.specs.declared.cause.Cause.TheVariants as cause
use Rattle.glk_cause.specs.declared.cause.Limit.TheVariants as limit
use Rattle.glk_cause.specs.Chain.{IsOne}
use Rattle.glk_cause.specs.Reading.{bytes_or}
use Rattle.glk_cause.proofs.ChainLaws.{then_one, gives_one, finds_one, function_one, along_one}
use Rattle.glk_package.specs.ObjectRules.{ObjectRules, rules_after}
use Rattle.glk_package.specs.ObjectEntry.{ObjectEntry}
use Rattle.glk_package.proofs.Once.{one_package}
use Rattle.glk_package.specs.PackageRefusal.{refusal_of}
use Rattle.glk_arena.specs.World.{Package, rules_so_far, file_bytes}
use Rattle.glk_arena.specs.Waves.{LoadInputs, ReadsOne, Reads, Formats, all_whole, broken, whole, broken_later, Wave, Loads, refused, last, crowded, further, next_wave, listed_count, file_of, fingerprint_refusal, missing_refusal}

err_once : {A E : Type 0} (one other : E) → (let a : Result A E = Err one in let b : Result A E = Err other in a ≡ b) → one ≡ other
err_once one other e = cc

some_once : {A : Type 0} (o : Option A) (a b : A) → o ≡ Some a → o ≡ Some b → a ≡ b
some_once o a b e f = cc

reads_once : (inputs : LoadInputs) (files : Contents) (left : ℕ) → IsOne (Reads inputs files left)
reads_once inputs files left = along_one one left where
  one : (l : ℕ) → IsOne (ReadsOne inputs files l)
  one l path = then_one path (function_one (λ p. bytes_or (file_of inputs p) l file_limit (file_in files (file_of inputs p))) path) (λ file read. gives_one file (λ b c h k. h ∙ sym k))

ok_once : {A E : Type 0} (one other : A) → (let a : Result A E = Ok one in let b : Result A E = Ok other in a ≡ b) → one ≡ other
ok_once one other e = cc

formats_once : (inputs : LoadInputs) (wanted : ObjectRules) (paths files : List (List ℕ)) (a b : Result (List Package) Cause) → Formats inputs wanted paths files a → Formats inputs wanted paths files b → a ≡ b
formats_once inputs wanted paths files a b (all_whole w) (all_whole v) = refl
formats_once inputs wanted paths files a b (broken w p ps f fs bad r) (broken v q qs g gs other s) =
    let one = one_package wanted f (Err bad) (Err other) r s in ap (λ c. Err (refusal_of (file_of inputs p) c)) (err_once bad other one)
formats_once inputs wanted paths files a b (broken w p ps f fs bad r) (whole v q qs g gs objects later s t) = absurd (let one = one_package wanted f (Err bad) (Ok objects) r s in cc)
formats_once inputs wanted paths files a b (broken w p ps f fs bad r) (broken_later v q qs g gs objects c s t) = absurd (let one = one_package wanted f (Err bad) (Ok objects) r s in cc)
formats_once inputs wanted paths files a b (whole w p ps f fs objects later r m) (broken v q qs g gs other s) = absurd (let one = one_package wanted f (Ok objects) (Err other) r s in cc)
formats_once inputs wanted paths files a b (whole w p ps f fs objects later r m) (whole v q qs g gs others later' s t) =
    let one = one_package wanted f (Ok objects) (Ok others) r s in
    let same : objects ≡ others = ok_once objects others one in
    let F : List ObjectEntry → Type 0 = λ os. Formats inputs (rules_after wanted os) ps fs (Ok later) in
    let rest = formats_once inputs (rules_after wanted others) ps fs (Ok later) (Ok later') (subst F same m) t in
    let tail : later ≡ later' = ok_once later later' rest in
    cc
formats_once inputs wanted paths files a b (whole w p ps f fs objects later r m) (broken_later v q qs g gs others c s t) =
    let one = one_package wanted f (Ok objects) (Ok others) r s in
    let same : objects ≡ others = ok_once objects others one in
    let F : List ObjectEntry → Type 0 = λ os. Formats inputs (rules_after wanted os) ps fs (Ok later) in
    let rest = formats_once inputs (rules_after wanted others) ps fs (Ok later) (Err c) (subst F same m) t in
    absurd (cc)
formats_once inputs wanted paths files a b (broken_later w p ps f fs objects c r m) (broken v q qs g gs other s) = absurd (let one = one_package wanted f (Ok objects) (Err other) r s in cc)
formats_once inputs wanted paths files a b (broken_later w p ps f fs objects c r m) (whole v q qs g gs others later s t) =
    let one = one_package wanted f (Ok objects) (Ok others) r s in
    let same : objects ≡ others = ok_once objects others one in
    let F : List ObjectEntry → Type 0 = λ os. Formats inputs (rules_after wanted os) ps fs (Err c) in
    let rest = formats_once inputs (rules_after wanted others) ps fs (Err c) (Ok later) (subst F same m) t in
    absurd (cc)
formats_once inputs wanted paths files a b (broken_later w p ps f fs objects c r m) (broken_later v q qs g gs others d s t) =
    let one = one_package wanted f (Ok objects) (Ok others) r s in
    let same : objects ≡ others = ok_once objects others one in
    let F : List ObjectEntry → Type 0 = λ os. Formats inputs (rules_after wanted os) ps fs (Err c) in
    formats_once inputs (rules_after wanted others) ps fs (Err c) (Err d) (subst F same m) t

wave_once : (inputs : LoadInputs) (files : Contents) (earlier : List Package) (paths : List (List ℕ)) (a b : Result (List Package) Cause) → Wave inputs files earlier paths a → Wave inputs files earlier paths b → a ≡ b
wave_once inputs files earlier paths =
    then_one paths (reads_once inputs files (file_limit - file_bytes earlier) paths)
    (λ read h. then_one read (formats_once inputs (rules_so_far earlier) paths read)
    (λ wave k. then_one wave (finds_one wave (some_once (fingerprint_refusal earlier wave)))
    (λ same m. finds_one same (some_once (missing_refusal inputs.listed earlier same)))))

pub loads_once : (inputs : LoadInputs) (files : Contents) (earlier : List Package) (paths : List (List ℕ)) (a b : Result (List Package) Cause) → Loads inputs files earlier paths a → Loads inputs files earlier paths b → a ≡ b
loads_once inputs files earlier paths a b (refused xe xps xc xv) (refused ye yps yc yv) = wave_once inputs files earlier paths (Err xc) (Err yc) xv yv
loads_once inputs files earlier paths a b (refused xe xps xc xv) (last ye yps yw yv yn) = absurd (let e = wave_once inputs files earlier paths (Err xc) (Ok yw) xv yv in cc)
loads_once inputs files earlier paths a b (refused xe xps xc xv) (crowded ye yps yw yv ys ym) = absurd (let e = wave_once inputs files earlier paths (Err xc) (Ok yw) xv yv in cc)
loads_once inputs files earlier paths a b (refused xe xps xc xv) (further ye yps yw ya yv ys ym yl) = absurd (let e = wave_once inputs files earlier paths (Err xc) (Ok yw) xv yv in cc)
loads_once inputs files earlier paths a b (last xe xps xw xv xn) (refused ye yps yc yv) = absurd (let e = wave_once inputs files earlier paths (Ok xw) (Err yc) xv yv in cc)
loads_once inputs files earlier paths a b (last xe xps xw xv xn) (last ye yps yw yv yn) = let same : xw ≡ yw = ok_once xw yw (wave_once inputs files earlier paths (Ok xw) (Ok yw) xv yv) in ap (λ w. Ok (earlier ++ w)) same
loads_once inputs files earlier paths a b (last xe xps xw xv xn) (crowded ye yps yw yv ys ym) = absurd (let same : xw ≡ yw = ok_once xw yw (wave_once inputs files earlier paths (Ok xw) (Ok yw) xv yv) in let next = ap (λ w. length (next_wave earlier w)) same in let none = ap length xn in omega (arith, next, none, ys))
loads_once inputs files earlier paths a b (last xe xps xw xv xn) (further ye yps yw ya yv ys ym yl) = absurd (let same : xw ≡ yw = ok_once xw yw (wave_once inputs files earlier paths (Ok xw) (Ok yw) xv yv) in let next = ap (λ w. length (next_wave earlier w)) same in let none = ap length xn in omega (arith, next, none, ys))
loads_once inputs files earlier paths a b (crowded xe xps xw xv xs xm) (refused ye yps yc yv) = absurd (let e = wave_once inputs files earlier paths (Ok xw) (Err yc) xv yv in cc)
loads_once inputs files earlier paths a b (crowded xe xps xw xv xs xm) (last ye yps yw yv yn) = absurd (let same : xw ≡ yw = ok_once xw yw (wave_once inputs files earlier paths (Ok xw) (Ok yw) xv yv) in let next = ap (λ w. length (next_wave earlier w)) same in let none = ap length yn in omega (arith, next, none, xs))
loads_once inputs files earlier paths a b (crowded xe xps xw xv xs xm) (crowded ye yps yw yv ys ym) = let same : xw ≡ yw = ok_once xw yw (wave_once inputs files earlier paths (Ok xw) (Ok yw) xv yv) in ap (λ w. Err (cause.TooLarge limit.Packages (listed_count earlier w))) same
loads_once inputs files earlier paths a b (crowded xe xps xw xv xs xm) (further ye yps yw ya yv ys ym yl) = absurd (let same : xw ≡ yw = ok_once xw yw (wave_once inputs files earlier paths (Ok xw) (Ok yw) xv yv) in let count = ap (λ w. listed_count earlier w) same in omega (arith, count, xm, ym))
loads_once inputs files earlier paths a b (further xe xps xw xa xv xs xm xl) (refused ye yps yc yv) = absurd (let e = wave_once inputs files earlier paths (Ok xw) (Err yc) xv yv in cc)
loads_once inputs files earlier paths a b (further xe xps xw xa xv xs xm xl) (last ye yps yw yv yn) = absurd (let same : xw ≡ yw = ok_once xw yw (wave_once inputs files earlier paths (Ok xw) (Ok yw) xv yv) in let next = ap (λ w. length (next_wave earlier w)) same in let none = ap length yn in omega (arith, next, none, xs))
loads_once inputs files earlier paths a b (further xe xps xw xa xv xs xm xl) (crowded ye yps yw yv ys ym) = absurd (let same : xw ≡ yw = ok_once xw yw (wave_once inputs files earlier paths (Ok xw) (Ok yw) xv yv) in let count = ap (λ w. listed_count earlier w) same in omega (arith, count, xm, ym))
loads_once inputs files earlier paths a b (further xe xps xw xa xv xs xm xl) (further ye yps yw ya yv ys ym yl) = let same : xw ≡ yw = ok_once xw yw (wave_once inputs files earlier paths (Ok xw) (Ok yw) xv yv) in
    let L : List Package → Type 0 = λ w. Loads inputs files (earlier ++ w) (next_wave earlier w) a in
    loads_once inputs files (earlier ++ yw) (next_wave earlier yw) a b (subst L same xl) yl

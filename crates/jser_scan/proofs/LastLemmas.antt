-- The last bytes of a stream, and a part of them.
use Rattle.std.proofs.Common.{◌≡◌, ◌≤◌, ◌<◌, ℕ, zero, suc, ◌+◌, ◌-◌, ◌^◌, min, List, [], ◌∷◌, ◌++◌, length, take, drop, refl, sym, ap, subst, ◌∙◌, arith, append_assoc, append-nil, length-append}
use Rattle.std.proofs.Math.Seq.{drop-nil, take-nil}
use Rattle.std.proofs.lemmas.List.{take-append-drop, length-take-le, length-drop, take_at, drop_at}
use Rattle.jser_scan.specs.LastSeen.{LastSeen, AreLast, LetsGo, StandsBetween}

pub gone_none : (old : LastSeen) → LetsGo old old
gone_none old = record { gone = []; split = refl; same = refl }

pub gone_older : (older newer : List ℕ) (end : ℕ) → LetsGo (record { kept = older ++ newer; end = end }) (record { kept = newer ++ []; end = end })
gone_older older newer end = record { gone = older; split = ap (λ xs. older ++ xs) (sym (append-nil newer)); same = refl }

counted : (end more : ℕ) (before bytes : List ℕ) → (length before < 2 ^ 64 → end ≡ length before) → more ≡ min (end + length bytes) 18446744073709551615
    → length (before ++ bytes) < 2 ^ 64 → more ≡ length (before ++ bytes)
counted end more before bytes count e few =
    let l = length-append before bytes in
    let c : end ≡ length before = count (omega arith) in
    omega arith

pub kept_none : (old mid : LastSeen) (older newer bytes before : List ℕ) (end more : ℕ) → LetsGo old mid → end ≡ mid.end → older ≡ [] → newer ≡ []
    → more ≡ min (end + length bytes) 18446744073709551615 → AreLast old before → AreLast (record { kept = older ++ newer; end = more }) (before ++ bytes)
kept_none old mid older newer bytes before end more go m o n e last = record {
  lost = before ++ bytes;
  split = sym (append-nil (before ++ bytes)) ∙ ap (λ xs. (before ++ bytes) ++ xs) (sym (ap (λ xs. xs ++ newer) o ∙ n));
  counted = counted end more before bytes (λ few. m ∙ go.same ∙ last.counted few) e;
}

pub kept_more : (old mid : LastSeen) (older newer grown bytes before : List ℕ) (end more : ℕ) → LetsGo old mid → mid ≡ record { kept = older ++ newer; end = end }
    → grown ≡ newer ++ bytes → more ≡ min (end + length bytes) 18446744073709551615 → AreLast old before
    → AreLast (record { kept = older ++ grown; end = more }) (before ++ bytes)
kept_more old mid older newer grown bytes before end more go m n e last = record {
  lost = last.lost ++ go.gone;
  split =
      ap (λ xs. xs ++ bytes)
      (last.split ∙ ap (λ xs. last.lost ++ xs) (go.split ∙ ap (λ r. go.gone ++ r.kept) m) ∙ sym (append_assoc last.lost go.gone (older ++ newer)))
      ∙ append_assoc (last.lost ++ go.gone) (older ++ newer) bytes ∙ ap (λ xs. (last.lost ++ go.gone) ++ xs) (append_assoc older newer bytes ∙ ap (λ xs. older ++ xs) (sym n));
  counted = counted end more before bytes (λ few. sym (ap (λ r. r.end) m) ∙ go.same ∙ last.counted few) e;
}

-- a part of two lists, one after the other, is a part of the first and a part of the second
seam : (xs ys : List ℕ) (a n a' n' : ℕ) → a' ≡ a - length xs → n' ≡ ((a + n) - length xs) - a' → take n (drop a xs) ++ take n' (drop a' ys) ≡ take n (drop a (xs ++ ys))
seam [] ys a n a' n' p q =
    let p' : a' ≡ a = omega arith in
    let q' : n' ≡ n = omega arith in
    ap (λ zs. zs ++ take n' (drop a' ys)) (ap (λ zs. take n zs) (drop-nil a) ∙ take-nil n) ∙ ap (λ k. take n' (drop k ys)) p' ∙ ap (λ k. take k (drop a ys)) q'
seam (x ∷ xs) ys zero zero a' n' p q =
    let q' : n' ≡ 0 = omega arith in
    ap (λ k. take k (drop a' ys)) q'
seam (x ∷ xs) ys zero (suc n) a' n' p q = ap (λ zs. x ∷ zs) (seam xs ys zero n a' n' (omega arith) (omega arith))
seam (x ∷ xs) ys (suc a) n a' n' p q = seam xs ys a n a' n' (omega arith) (omega arith)

part_between : (last : LastSeen) (bytes : List ℕ) (first a b : ℕ) → AreLast last bytes → length bytes < 2 ^ 64 → last.end ≡ first + length last.kept → a ≤ b → b ≤ length last.kept
    → StandsBetween bytes (first + a) (first + b) (take (b - a) (drop a last.kept))
part_between last bytes first a b are few e ab bk =
    let c = are.counted few in
    let whole = ap length are.split ∙ length-append are.lost last.kept in
    let ta = length-take-le a last.kept (omega arith) in
    let da = length-drop a last.kept in
    let la = length-append are.lost (take a last.kept) in
    let tb = length-take-le (b - a) (drop a last.kept) (omega arith) in
    record {
      before = are.lost ++ take a last.kept;
      after = drop (b - a) (drop a last.kept);
      split =
          are.split ∙ ap (λ xs. are.lost ++ xs) (sym (take-append-drop a last.kept)) ∙ sym (append_assoc are.lost (take a last.kept) (drop a last.kept))
          ∙ ap (λ xs. (are.lost ++ take a last.kept) ++ xs) (sym (take-append-drop (b - a) (drop a last.kept)));
      begins = omega arith;
      ends = omega arith;
    }

pub part_stands : (last : LastSeen) (older newer bytes part : List ℕ) (ended first start end : ℕ) → last ≡ record { kept = older ++ newer; end = ended }
    → ended ≡ first + (length older + length newer) → first ≤ start → start ≤ end → end ≤ ended
    → part ≡ take ((end - first) - (start - first)) (drop (start - first) older)
    ++ take (((end - first) - length older) - ((start - first) - length older)) (drop ((start - first) - length older) newer)
    → AreLast last bytes → length bytes < 2 ^ 64 → StandsBetween bytes start end part
part_stands last older newer bytes part ended first start end same e fs se ee is are few =
    let kept : last.kept ≡ older ++ newer = ap (λ r. r.kept) same in
    let long : length last.kept ≡ length older + length newer = ap length kept ∙ length-append older newer in
    let has_end : last.end ≡ ended = ap (λ r. r.end) same in
    let from : first + (start - first) ≡ start = omega arith in
    let to : first + (end - first) ≡ end = omega arith in
    let found = part_between last bytes first (start - first) (end - first) are few (omega arith) (omega arith) (omega arith) in
    let whole : take ((end - first) - (start - first)) (drop (start - first) last.kept) ≡ part =
    ap (λ xs. take ((end - first) - (start - first)) (drop (start - first) xs)) kept ∙ sym (seam older newer (start - first) ((end - first) - (start - first)) _ _ refl (omega arith)) ∙ sym is in
    subst (λ n. StandsBetween bytes start n part) to
    (subst (λ n. StandsBetween bytes n (first + (end - first)) part) from (subst (λ xs. StandsBetween bytes (first + (start - first)) (first + (end - first)) xs) whole found))

-- where as many are kept as there were, all are
all_of : (lost kept : List ℕ) → length (lost ++ kept) ≡ length kept → lost ++ kept ≡ kept
all_of [] kept same = refl
all_of (x ∷ lost) kept same =
    let l = length-append lost kept in
    absurd (omega arith)

pub all_kept : (last : LastSeen) (older newer : List ℕ) (end : ℕ) → last ≡ record { kept = older ++ newer; end = end } → older ≡ [] → length newer ≡ end
    → (bytes : List ℕ) → AreLast last bytes → length bytes < 2 ^ 64 → newer ≡ bytes
all_kept last older newer end is none same bytes are few =
    let kept : last.kept ≡ newer = ap (λ r. r.kept) is ∙ ap (λ xs. xs ++ newer) none in
    let count = are.counted few in
    let ends : last.end ≡ end = ap (λ r. r.end) is in
    let split : bytes ≡ are.lost ++ newer = are.split ∙ ap (λ xs. are.lost ++ xs) kept in
    let long = ap length split in
    sym (split ∙ all_of are.lost newer (omega arith))

-- ---- a part that is not there

-- at most one part stands between two places
pub between_one : (bytes one other : List ℕ) (start end : ℕ) → StandsBetween bytes start end one → StandsBetween bytes start end other → one ≡ other
between_one bytes one other start end s t =
    let same : length one ≡ length other = let a = s.ends in let b = t.ends in omega (arith, a, b) in
    let first : drop start bytes ≡ one ++ s.after = ap (λ xs. drop start xs) s.split ∙ drop_at s.before (one ++ s.after) start s.begins in
    let second : drop start bytes ≡ other ++ t.after = ap (λ xs. drop start xs) t.split ∙ drop_at t.before (other ++ t.after) start t.begins in
    sym (take_at one s.after (length one) refl) ∙ ap (λ xs. take (length one) xs) (sym first ∙ second) ∙ take_at other t.after (length one) (sym same)

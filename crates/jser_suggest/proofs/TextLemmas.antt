-- The text of the suggested filter says its pieces.
use Rattle.std.proofs.Common.{◌≡◌, ℕ, ◌≤◌, Bool, true, false, not, List, [], ◌∷◌, ◌++◌, map, codes, decimal, inl, inr, refl, sym, ap, ◌∙◌, arith, append_assoc}
use Rattle.jser_filter.specs.Cuts.{split_at_each}
use Rattle.jser_filter.specs.declared.limit.Limit.TheVariants as limit
use Rattle.jser_filter.specs.Pieces.{limit_piece, read_piece, pieces_of}
use Rattle.jser_suggest.specs.Suggested.{Known, only, no_other, suggested, names_text, suggested_text, has, is_writable, is_one_line}
use Rattle.jser_suggest.specs.Samples.{Among}
use Rattle.jser_suggest.proofs.PieceLemmas.{has_both, one_part, first_part, decimal_has, bytes_piece, refs_piece, depth_piece, array_piece, plain, name_piece, last_piece}

abbrev Writable : List (List ℕ) → Type 0
Writable names = (name : List ℕ) → Among names name → is_writable name ≡ true

split_names : (names : List (List ℕ)) (front : List ℕ) → has 0x3B front ≡ false → Writable names
    → split_at_each 0x3B (front ++ (names_text names ++ codes ";!*")) ≡ front ∷ (names ++ codes "!*" ∷ [])
split_names [] front none w = first_part 0x3B front (codes "!*") none ∙ ap (λ ps. front ∷ ps) (one_part 0x3B (codes "!*") refl)
split_names (name ∷ names) front none w =
    first_part 0x3B front ((name ++ names_text names) ++ codes ";!*") none
    ∙ ap (λ ps. front ∷ ps)
    (ap (split_at_each 0x3B) (append_assoc name (names_text names) (codes ";!*"))
    ∙ split_names names name (plain name (w name (inl refl))).one (λ other among. w other (inr among)))

names_read : (names : List (List ℕ)) → Writable names → map read_piece (names ++ codes "!*" ∷ []) ≡ map only names ++ no_other ∷ []
names_read [] w = ap (λ p. p ∷ []) last_piece
names_read (name ∷ names) w =
    ap (λ p. p ∷ map read_piece (names ++ codes "!*" ∷ [])) (name_piece name (w name (inl refl)))
    ∙ ap (λ ps. only name ∷ ps) (names_read names (λ other among. w other (inr among)))

-- what comes behind a semicolon
behind : (front words value rest : List ℕ) → ((front ++ 0x3B ∷ words) ++ value) ++ rest ≡ front ++ 0x3B ∷ ((words ++ value) ++ rest)
behind front words value rest =
    append_assoc (front ++ 0x3B ∷ words) value rest ∙ append_assoc front (0x3B ∷ words) (value ++ rest)
    ∙ ap (λ xs. front ++ 0x3B ∷ xs) (sym (append_assoc words value rest))

none_in : (words : List ℕ) (n : ℕ) → has 0x3B words ≡ false → n ≤ 9223372036854775807 → has 0x3B (words ++ decimal n) ≡ false
none_in words n none few = has_both 0x3B words (decimal n) none (decimal_has 0x3B n (inr (omega arith)) (omega (arith, few)))

-- all counts are such as a limit may have
pub record AreLimits (known : Known) : Type 0 where
  pub bytes : known.bytes ≤ 9223372036854775807
  pub refs : known.refs ≤ 9223372036854775807
  pub depth : known.depth ≤ 9223372036854775807
  pub array : known.array ≤ 9223372036854775807

pub reads_suggested : (known : Known) → AreLimits known → Writable known.names → pieces_of (suggested_text known) ≡ suggested known
reads_suggested known l w =
    let b = codes "maxbytes=" ++ decimal known.bytes in
    let r = codes "maxrefs=" ++ decimal known.refs in
    let d = codes "maxdepth=" ++ decimal known.depth in
    let a = codes "maxarray=" ++ decimal known.array in
    let names = names_text known.names ++ codes ";!*" in
    let end = known.names ++ codes "!*" ∷ [] in
    let two = (b ++ codes ";maxrefs=") ++ decimal known.refs in
    let three = (two ++ codes ";maxdepth=") ++ decimal known.depth in
    let four = (three ++ codes ";maxarray=") ++ decimal known.array in
    let text : suggested_text known ≡ b ++ 0x3B ∷ (r ++ 0x3B ∷ (d ++ 0x3B ∷ (a ++ names))) =
    append_assoc four (names_text known.names) (codes ";!*") ∙ behind three (codes "maxarray=") (decimal known.array) names
    ∙ behind two (codes "maxdepth=") (decimal known.depth) (0x3B ∷ (a ++ names)) ∙ behind b (codes "maxrefs=") (decimal known.refs) (0x3B ∷ (d ++ 0x3B ∷ (a ++ names))) in
    let parts : split_at_each 0x3B (suggested_text known) ≡ b ∷ r ∷ d ∷ a ∷ end =
    ap (split_at_each 0x3B) text
    ∙ first_part 0x3B b (r ++ 0x3B ∷ (d ++ 0x3B ∷ (a ++ names))) (none_in (codes "maxbytes=") known.bytes refl l.bytes)
    ∙ ap (λ ps. b ∷ ps) (first_part 0x3B r (d ++ 0x3B ∷ (a ++ names)) (none_in (codes "maxrefs=") known.refs refl l.refs)
    ∙ ap (λ ps. r ∷ ps) (first_part 0x3B d (a ++ names) (none_in (codes "maxdepth=") known.depth refl l.depth)
    ∙ ap (λ ps. d ∷ ps) (split_names known.names a (none_in (codes "maxarray=") known.array refl l.array) w))) in
    ap (map read_piece) parts
    ∙ ap (λ p. p ∷ read_piece r ∷ read_piece d ∷ read_piece a ∷ map read_piece end) (bytes_piece known.bytes l.bytes)
    ∙ ap (λ ps. limit_piece limit.Bytes known.bytes ∷ ps)
    (ap (λ p. p ∷ read_piece d ∷ read_piece a ∷ map read_piece end) (refs_piece known.refs l.refs)
    ∙ ap (λ ps. limit_piece limit.Refs known.refs ∷ ps)
    (ap (λ p. p ∷ read_piece a ∷ map read_piece end) (depth_piece known.depth l.depth)
    ∙ ap (λ ps. limit_piece limit.Depth known.depth ∷ ps)
    (ap (λ p. p ∷ map read_piece end) (array_piece known.array l.array) ∙ ap (λ ps. limit_piece limit.Array known.array ∷ ps) (names_read known.names w))))

-- ---- one line

not_held : (b : Bool) → not b ≡ true → b ≡ false
not_held true e = sym e
not_held false e = refl

decimal_line : (n : ℕ) → n ≤ 9223372036854775807 → has 0x0A (decimal n) ≡ false
decimal_line n few = decimal_has 0x0A n (inl (omega arith)) (omega (arith, few))

-- words and a number behind a text
count_line : (front words : List ℕ) (n : ℕ) → has 0x0A front ≡ false → has 0x0A words ≡ false → n ≤ 9223372036854775807 → has 0x0A ((front ++ words) ++ decimal n) ≡ false
count_line front words n f w few = has_both 0x0A (front ++ words) (decimal n) (has_both 0x0A front words f w) (decimal_line n few)

names_line : (names : List (List ℕ)) → ((name : List ℕ) → Among names name → is_one_line name ≡ true) → has 0x0A (names_text names) ≡ false
names_line [] one = refl
names_line (name ∷ names) one =
    has_both 0x0A name (names_text names) (not_held (has 0x0A name) (one name (inl refl))) (names_line names (λ other among. one other (inr among)))

pub suggested_line : (known : Known) → AreLimits known → ((name : List ℕ) → Among known.names name → is_one_line name ≡ true) → is_one_line (suggested_text known) ≡ true
suggested_line known l one =
    let b = codes "maxbytes=" ++ decimal known.bytes in
    let r = (b ++ codes ";maxrefs=") ++ decimal known.refs in
    let d = (r ++ codes ";maxdepth=") ++ decimal known.depth in
    let a = (d ++ codes ";maxarray=") ++ decimal known.array in
    let first = has_both 0x0A (codes "maxbytes=") (decimal known.bytes) refl (decimal_line known.bytes l.bytes) in
    let second = count_line b (codes ";maxrefs=") known.refs first refl l.refs in
    let third = count_line r (codes ";maxdepth=") known.depth second refl l.depth in
    let fourth = count_line d (codes ";maxarray=") known.array third refl l.array in
    ap not (has_both 0x0A (a ++ names_text known.names) (codes ";!*") (has_both 0x0A a (names_text known.names) fourth (names_line known.names one)) refl)

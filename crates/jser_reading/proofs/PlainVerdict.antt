-- A plain verdict: wait for as many bytes as the token needs, find the token in them, and compare its bytes. It
-- tells no early fault and knows one reason, but it meets the premise of the byte laws, for every gate.
use Rattle.std.proofs.Common.{◌≡◌, ℕ, zero, suc, ◌+◌, ◌-◌, ◌*◌, ◌<◌, ◌≤◌, Bool, true, false, cond, List, [], ◌∷◌, ◌++◌, length, refl, sym, ◌∙◌, ap, subst, arith, Option, Some, None, IsTrue, IsFalse, nat_lt, append-nil, true≢false}
use Rattle.jser_reading.proofs.Vocabulary.{big_bytes, modified_utf8, IsUnits, byte_code, char_code, double_code, float_code, int_code, long_code, short_code, boolean_code, size_of, IsText, IsHandle, Moment, StreamToken, header_token, tag_token, block_tag_token, end_tag_token, reset_tag_token, handle_token, suid_token, flags_token, field_count_token, interface_count_token, array_length_token, code_token, text_token, block_length_token, prims_token, bytes_token, Position, header_at, top_at, annotation_at, value_at, text_place_at, class_place_at, superclass_place_at, back_handle_at, text_handle_at, class_handle_at, superclass_handle_at, string_at, class_name_at, field_name_at, interface_name_at, suid_at, field_count_at, interface_count_at, array_length_at, flags_at, type_code_at, block_length_at, raw_at, bytes_at, Label, AcceptsAt, Accepts}
use Rattle.std.proofs.Common.{take, drop, length-append, leb-true, le-leb, ltb-false}
use Rattle.std.proofs.lemmas.List.{take_at, drop_at, take-append-le}
use Rattle.jser_grammar.specs.Spelling.{utf, long_utf, prims_spelling}
use Rattle.jser_reading.specs.TokenBytes.{bytes_of}
use Rattle.jser_reading.specs.Scanner.{Verdict, more, good, bad, TokenGate, IsUndecided, IsScanner}
use Rattle.jser_reading.specs.WalkLaws.{EachGateHasAVerdict}
use Rattle.jser_reading.proofs.Deciding.{decide_at, decide_bytes}
use Rattle.jser_reading.proofs.Decoding.{number_1, number_2, number_4, number_8, length-big_bytes, not_lt, units_back, tag_back, block_tag_back, end_tag_back, reset_tag_back, prims_back, length-prims_spelling}
use Rattle.jser_reading.specs.TokensFromBytes.{number_of, units_in, prims_in, text_in, token_in, text_size, size_in}

abbrev pub judge : {A B : Type 0} → StreamToken → Dec A → Bool → Dec B → Verdict
judge f (yes a) true (yes e) = good f
judge f (yes a) true (no h) = bad 0
judge f (yes a) false e = bad 0
judge f (no h) g e = bad 0

abbrev pub judged : TokenGate → Label → Option StreamToken → List ℕ → Verdict
judged gate l None p = bad 0
judged gate l (Some f) p = judge f (decide_at l.position l.moment f) (gate l f) (decide_bytes p (bytes_of f))

abbrev pub plain_verdict : TokenGate → Label → List ℕ → Verdict
plain_verdict gate l p = cond (nat_lt (length p) (size_in l.position p)) more (judged gate l (token_in l.position p) p)

-- what the verdict needs of a token at a position
pub record Whole (w : Position) (f : StreamToken) : Type 0 where
  pub found : token_in w (bytes_of f) ≡ Some f
  pub enough : size_in w (bytes_of f) ≤ length (bytes_of f)
  pub fronts : (a : List ℕ) (c : ℕ) (b : List ℕ) → bytes_of f ≡ a ++ (c ∷ b) → length a < size_in w a

shorter : (s a : List ℕ) (c : ℕ) (b : List ℕ) → s ≡ a ++ (c ∷ b) → length a < length s
shorter s a c b e = omega (arith, length-append a (c ∷ b), ap length e)

abbrev pub size_by_head : ℕ → List ℕ → ℕ
size_by_head k p = cond (nat_lt (length p) k) k (k + number_of (take k p))

size_whole : (k n : ℕ) (head body : List ℕ) → length head ≡ k → number_of head ≡ n → length body ≡ n
    → size_by_head k (head ++ body) ≡ k + n
size_whole k n head body lh nh lb =
    ap (λ b. cond b k (k + number_of (take k (head ++ body)))) (not_lt (length (head
    ++ body)) k (omega (arith, length-append head body)))
    ∙ ap (λ q. k + number_of q) (take_at head body k lh) ∙ ap (λ x. k + x) nh

size_front : (k n : ℕ) (head body a : List ℕ) (c : ℕ) (b : List ℕ) → length head ≡ k → number_of head ≡ n → length body ≡ n
    → head ++ body ≡ a ++ (c ∷ b) → length a < size_by_head k a
size_front k n head body a c b lh nh lb e = go (nat_lt (length a) k) refl
  where
    go : (x : Bool) → nat_lt (length a) k ≡ x → length a < size_by_head k a
    go true ex = rw ex (leb-true (suc (length a)) k ex)
    go false ex =
        let le : k ≤ length a = ltb-false (length a) k ex in
        let t : take k a ≡ head = sym (take-append-le k a (c ∷ b) le) ∙ ap (take k) (sym e) ∙ take_at head body k lh in
        let l : length a < length (head ++ body) = shorter (head ++ body) a c b e in
        rw (ex, t, nh) (omega (arith, length-append head body))

-- a text, by the size of the number in front of it
pub text_parts : (k : ℕ) (u : List ℕ) → IsUnits u → number_of (big_bytes k (length (modified_utf8 u))) ≡ length (modified_utf8 u)
    → (units_in (length (big_bytes k (length (modified_utf8 u))
    ++ modified_utf8 u)) (drop k (big_bytes k (length (modified_utf8 u)) ++ modified_utf8 u)) ≡ u)
    × (size_by_head k (big_bytes k (length (modified_utf8 u))
    ++ modified_utf8 u) ≤ length (big_bytes k (length (modified_utf8 u)) ++ modified_utf8 u))
    × ((a : List ℕ) (c : ℕ) (b : List ℕ) → big_bytes k (length (modified_utf8 u)) ++ modified_utf8 u ≡ a ++ (c ∷ b)
    → length a < size_by_head k a)
text_parts k u us nh =
    let n : ℕ = length (modified_utf8 u) in
    let head : List ℕ = big_bytes k n in
    let lh : length head ≡ k = length-big_bytes k n in
    let le : length (modified_utf8 u) ≤ length (head ++ modified_utf8 u) = omega (arith, length-append head (modified_utf8 u)) in
    let d : units_in (length (head ++ modified_utf8 u)) (drop k (head ++ modified_utf8 u)) ≡ u =
    ap (units_in (length (head ++ modified_utf8 u))) (drop_at head (modified_utf8 u) k lh) ∙ units_back u (length (head
    ++ modified_utf8 u)) us le in
    let w : size_by_head k (head ++ modified_utf8 u) ≡ k + n = size_whole k n head (modified_utf8 u) lh nh refl in (
      d,
      omega (arith, w, length-append head (modified_utf8 u), lh),
      λ a c b e. size_front k n head
          (modified_utf8 u) a c b lh nh refl e,
    )

text_whole : (w : Position) (long : Bool) (u : List ℕ) → IsText long u → ((p : List ℕ) → token_in w p ≡ text_in long p)
    → ((p : List ℕ) → size_in w p ≡ text_size long p) → Whole w (text_token long u)
text_whole w true u h d n =
    let x = text_parts 8 u h.0 (number_8 (length (modified_utf8 u)) (omega arith)) in
    record {
      found = d (long_utf u) ∙ ap (λ z. Some (text_token true z)) x.0;
      enough = rw (n (long_utf u)) x.1;
      fronts = λ a c b e. rw (n a) (x.2 a c b e);
    }
text_whole w false u h d n =
    let x = text_parts 2 u h.0 (number_2 (length (modified_utf8 u)) h.1) in
    record {
      found = d (utf u) ∙ ap (λ z. Some (text_token false z)) x.0;
      enough = rw (n (utf u)) x.1;
      fronts = λ a c b e. rw (n a) (x.2 a c b e);
    }

fixed : (w : Position) (f : StreamToken) (k : ℕ) → token_in w (bytes_of f) ≡ Some f → length (bytes_of f) ≡ k
    → ((p : List ℕ) → size_in w p ≡ k) → Whole w f
fixed w f k d l n = record {
  found = d;
  enough = omega (arith, n (bytes_of f), l);
  fronts = λ a c b e. omega (arith, n a, l, shorter (bytes_of f) a c b e);
}

handle_whole : (w : Position) (n : ℕ) → IsHandle n
    → ((p : List ℕ) → token_in w p ≡ Some (handle_token (number_of p - 0x7E0000))) → ((p : List ℕ) → size_in w p ≡ 4)
    → Whole w (handle_token n)
handle_whole w n h d k =
    let e : number_of (big_bytes 4 (0x7E0000 + n)) ≡ 0x7E0000 + n = number_4 (0x7E0000 + n) h in
    let z : number_of (big_bytes 4 (0x7E0000 + n)) - 0x7E0000 ≡ n = omega arith in
    fixed w (handle_token n) 4 (d (big_bytes 4 (0x7E0000 + n)) ∙ ap (λ k. Some (handle_token k)) z)
    (length-big_bytes 4 (0x7E0000 + n)) k

length-block_tag : (long : Bool) → length (bytes_of (block_tag_token long)) ≡ 1
length-block_tag true = refl
length-block_tag false = refl

pub whole : (w : Position) (m : Moment) (f : StreamToken) → AcceptsAt w m f → Whole w f
whole header_at m header_token a = fixed header_at header_token 4 refl refl (λ p. refl)
whole top_at m (tag_token t) a = fixed top_at (tag_token t) 1 (tag_back t) refl (λ p. refl)
whole top_at m (block_tag_token long) a =
    fixed top_at (block_tag_token long) 1 (block_tag_back long) (length-block_tag long) (λ p. refl)
whole top_at m reset_tag_token a = fixed top_at reset_tag_token 1 reset_tag_back refl (λ p. refl)
whole annotation_at m (tag_token t) a = fixed annotation_at (tag_token t) 1 (tag_back t) refl (λ p. refl)
whole annotation_at m (block_tag_token long) a =
    fixed annotation_at (block_tag_token long) 1 (block_tag_back long) (length-block_tag long) (λ p. refl)
whole annotation_at m end_tag_token a = fixed annotation_at end_tag_token 1 end_tag_back refl (λ p. refl)
whole value_at m (tag_token t) a = fixed value_at (tag_token t) 1 (tag_back t) refl (λ p. refl)
whole text_place_at m (tag_token t) a = fixed text_place_at (tag_token t) 1 (tag_back t) refl (λ p. refl)
whole (class_place_at owner) m (tag_token t) a = fixed (class_place_at owner) (tag_token t) 1 (tag_back t) refl (λ p. refl)
whole (superclass_place_at owner strict) m (tag_token t) a =
    fixed (superclass_place_at owner strict) (tag_token t) 1 (tag_back t) refl (λ p. refl)
whole back_handle_at m (handle_token n) a = handle_whole back_handle_at n a.1 (λ p. refl) (λ p. refl)
whole text_handle_at m (handle_token n) a = handle_whole text_handle_at n a.1 (λ p. refl) (λ p. refl)
whole (class_handle_at owner) m (handle_token n) a = handle_whole (class_handle_at owner) n a.0.1 (λ p. refl) (λ p. refl)
whole (superclass_handle_at owner strict) m (handle_token n) a =
    handle_whole (superclass_handle_at owner strict) n a.0.1 (λ p. refl) (λ p. refl)
whole (string_at true) m (text_token true u) a = text_whole (string_at true) true u a (λ p. refl) (λ p. refl)
whole (string_at false) m (text_token false u) a = text_whole (string_at false) false u a (λ p. refl) (λ p. refl)
whole (class_name_at role) m (text_token false u) a = text_whole (class_name_at role) false u a.0.0 (λ p. refl) (λ p. refl)
whole field_name_at m (text_token false u) a = text_whole field_name_at false u a (λ p. refl) (λ p. refl)
whole interface_name_at m (text_token false u) a = text_whole interface_name_at false u a.0 (λ p. refl) (λ p. refl)
whole suid_at m (suid_token n) a =
    fixed suid_at (suid_token n) 8 (ap (λ k. Some (suid_token k)) (number_8 n a)) (length-big_bytes 8 n) (λ p. refl)
whole (flags_at role) m (flags_token n) a = fixed (flags_at role) (flags_token n) 1 refl refl (λ p. refl)
whole field_count_at m (field_count_token n) a =
    fixed field_count_at (field_count_token n) 2 (ap (λ k. Some (field_count_token k)) (number_2 n (omega arith)))
    (length-big_bytes 2 n) (λ p. refl)
whole interface_count_at m (interface_count_token n) a =
    fixed interface_count_at (interface_count_token n) 4 (ap (λ k. Some (interface_count_token k)) (number_4 n (omega arith)))
    (length-big_bytes 4 n) (λ p. refl)
whole array_length_at m (array_length_token n) a =
    fixed array_length_at (array_length_token n) 4 (ap (λ k. Some (array_length_token k)) (number_4 n (omega arith)))
    (length-big_bytes 4 n) (λ p. refl)
whole (type_code_at seen) m (code_token n) a = fixed (type_code_at seen) (code_token n) 1 refl refl (λ p. refl)
whole (block_length_at true) m (block_length_token true n) a =
    fixed (block_length_at true) (block_length_token true n) 4
    (ap (λ k. Some (block_length_token true k)) (number_4 n (omega arith))) (length-big_bytes 4 n) (λ p. refl)
whole (block_length_at false) m (block_length_token false n) a =
    fixed (block_length_at false) (block_length_token false n) 1
    (ap (λ k. Some (block_length_token false k)) (number_1 n (omega arith))) (length-big_bytes 1 n) (λ p. refl)
whole (raw_at c (suc n)) m (prims_token ps) a =
    fixed (raw_at c (suc n)) (prims_token ps) (suc n * size_of c)
    (ap (λ k. Some (prims_token (prims_in c k (prims_spelling ps)))) (sym a.0) ∙ ap (λ q. Some (prims_token q))
    (prims_back c ps a.1))
    (length-prims_spelling c ps a.1 ∙ ap (λ k. k * size_of c) a.0) (λ p. refl)
whole (bytes_at (suc n)) m (bytes_token b) a = fixed (bytes_at (suc n)) (bytes_token b) (suc n) refl a.1 (λ p. refl)
whole (string_at true) m _ a = absurd a
whole (string_at false) m _ a = absurd a
whole (block_length_at true) m _ a = absurd a
whole (block_length_at false) m _ a = absurd a
whole (raw_at c zero) m f a = absurd a
whole (raw_at c (suc n)) m _ a = absurd a
whole (bytes_at zero) m f a = absurd a
whole (bytes_at (suc n)) m _ a = absurd a
whole _ m _ a = absurd a

pub some_size : (w : Position) → 0 < size_in w []
some_size (string_at true) = omega arith
some_size (string_at false) = omega arith
some_size (block_length_at true) = omega arith
some_size (block_length_at false) = omega arith
some_size (raw_at c zero) = omega arith
some_size (raw_at byte_code (suc n)) = omega arith
some_size (raw_at char_code (suc n)) = omega arith
some_size (raw_at double_code (suc n)) = omega arith
some_size (raw_at float_code (suc n)) = omega arith
some_size (raw_at int_code (suc n)) = omega arith
some_size (raw_at long_code (suc n)) = omega arith
some_size (raw_at short_code (suc n)) = omega arith
some_size (raw_at boolean_code (suc n)) = omega arith
some_size (bytes_at zero) = omega arith
some_size (bytes_at (suc n)) = omega arith
some_size _ = omega arith

judge_good : {A B : Type 0} (f g : StreamToken) (x : Dec A) (b : Bool) (y : Dec B) → judge f x b y ≡ good g → (f ≡ g) × A
    × IsTrue b × B
judge_good f g (yes a) true (yes e) h = (cc, a, refl, e)
judge_good f g (yes a) true (no k) h = absurd (cc)
judge_good f g (yes a) false e h = absurd (cc)
judge_good f g (no k) b e h = absurd (cc)

judge_yes : {A B : Type 0} (f : StreamToken) (x : Dec A) (b : Bool) (y : Dec B) → A → IsTrue b → B → judge f x b y ≡ good f
judge_yes f (yes a) true (yes e) p q r = refl
judge_yes f (yes a) true (no k) p q r = absurd (k r)
judge_yes f (yes a) false e p q r = absurd (true≢false (sym q))
judge_yes f (no k) b e p q r = absurd (k p)

judge_stop : {A B : Type 0} (f : StreamToken) (x : Dec A) (b : Bool) (y : Dec B) → IsFalse b → judge f x b y ≡ bad 0
judge_stop f (yes a) true e q = absurd (true≢false q)
judge_stop f (yes a) false e q = refl
judge_stop f (no k) b e q = refl

module _ (gate : TokenGate) where
  at_end : (l : Label) (f : StreamToken) → Accepts l f → plain_verdict gate l (bytes_of f) ≡ judged gate l (Some f) (bytes_of f)
  at_end l f h =
      let w = whole l.position l.moment f h in
      ap (λ b. cond b more (judged gate l (token_in l.position (bytes_of f)) (bytes_of f)))
      (not_lt (length (bytes_of f)) (size_in l.position (bytes_of f)) w.enough)
      ∙ ap (λ o. judged gate l o (bytes_of f)) w.found

  pub in_front : (l : Label) (f : StreamToken) → Accepts l f → IsUndecided (plain_verdict gate) l (bytes_of f)
  in_front l f h a c b e =
      let w = whole l.position l.moment f h in
      ap (λ x. cond x more (judged gate l (token_in l.position a) a))
      (le-leb (suc (length a)) (size_in l.position a) (w.fronts a c b e))

  good_judged : (l : Label) (o : Option StreamToken) (p : List ℕ) (f : StreamToken) → judged gate l o p ≡ good f
      → (p ≡ bytes_of f) × Accepts l f × IsTrue (gate l f)
  good_judged l None p f e = absurd (cc)
  good_judged l (Some g) p f e =
      let x = judge_good g f (decide_at l.position l.moment g) (gate l g) (decide_bytes p (bytes_of g)) e in
      subst (λ k. (p ≡ bytes_of k) × Accepts l k × IsTrue (gate l k)) x.0 (x.3, x.1, x.2)

  pub scanner : IsScanner gate (plain_verdict gate)
  scanner = record {
    nothing_yet =
        λ l. ap (λ b. cond b more (judged gate l (token_in l.position []) []))
        (le-leb 1 (size_in l.position []) (some_size l.position));
    good_is = λ l p f e. good_one l p f e;
    is_good =
        λ l f h g. at_end l f h ∙ judge_yes f (decide_at l.position l.moment f) (gate l f)
        (decide_bytes (bytes_of f) (bytes_of f)) h g refl;
    before_end = λ l f h g. in_front l f h;
    stops = λ l f h g. (
      bytes_of f,
      [],
      0,
      sym (append-nil (bytes_of f)),
      at_end l f h ∙ judge_stop f (decide_at l.position l.moment f) (gate l f) (decide_bytes (bytes_of f) (bytes_of f)) g,
      in_front l f h,
    );
  }
    where
      good_one : (l : Label) (p : List ℕ) (f : StreamToken) → plain_verdict gate l p ≡ good f → (p ≡ bytes_of f) × Accepts l f
          × IsTrue (gate l f)
      good_one l p f e = go (nat_lt (length p) (size_in l.position p)) e
        where
          go : (x : Bool) → cond x more (judged gate l (token_in l.position p) p) ≡ good f → (p ≡ bytes_of f) × Accepts l f
              × IsTrue (gate l f)
          go true e = absurd (cc)
          go false e = good_judged l (token_in l.position p) p f e

pub each_gate_law : EachGateHasAVerdict
each_gate_law gate = (plain_verdict gate, scanner gate)

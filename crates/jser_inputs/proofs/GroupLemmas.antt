-- A whole group that is taken at once.
use Rattle.std.proofs.Common.{◌≡◌, ℕ, ◌+◌, ◌≤◌, length, take, drop, get_or, set, List, refl, sym, ap, subst, ◌∙◌, arith}
use Rattle.std.proofs.lemmas.List.{get_or-drop, length-set}
use Rattle.jser_inputs.specs.Groups.{Group}
use Rattle.jser_inputs.specs.declared.spot.Spot.{Spot}
use Rattle.jser_inputs.specs.Places.{move_of}
use Rattle.jser_inputs.specs.declared.spot.Move.TheVariants as move
use Rattle.jser_inputs.specs.Groups.{IsGroupAt, Turned, TurnsOn}
use Rattle.jser_inputs.specs.Spelled.{Reads}
use Rattle.jser_inputs.proofs.ReadLemmas.{goes_on, gives_on, passed_over, written_over}

-- where the rest is the same, so is its first
same_at : (xs ys : List ℕ) (k d : ℕ) → drop k xs ≡ drop k ys → get_or xs k d ≡ get_or ys k d
same_at xs ys k d same =
    ap (λ j. get_or xs j d) (omega arith) ∙ sym (get_or-drop k xs 0 d) ∙ ap (λ zs. get_or zs 0 d) same ∙ get_or-drop k ys 0 d ∙ ap (λ j. get_or ys j d) (omega arith)

shifted : (start now : Spot) (text out : List ℕ) (n m : ℕ) → n ≡ m → Reads start now text (drop n text) out n → Reads start now text (drop m text) out m
shifted start now text out n m is r = subst (λ k. Reads start now text (drop k text) out k) is r

moved_on : (xs ys : List ℕ) (n m : ℕ) → n ≡ m → drop n xs ≡ drop n ys → drop m xs ≡ drop m ys
moved_on xs ys n m is same = subst (λ k. drop k xs ≡ drop k ys) is same

abbrev pub one_set : (buf : List ℕ) (given : ℕ) → Group → List ℕ
one_set buf given group = set buf given group.first

abbrev pub two_set : (buf : List ℕ) (given : ℕ) → Group → List ℕ
two_set buf given group = set (one_set buf given group) (given + 1) group.second

abbrev pub all_set : (buf : List ℕ) (given : ℕ) → Group → List ℕ
all_set buf given group = set (two_set buf given group) (given + 2) group.third

first_turn : (start now : Spot) (group : Group) (old buf : List ℕ) (count taken given : ℕ) → count ≤ length old → given ≤ taken → Turned start now old buf count taken given
    → (g : IsGroupAt now buf taken count group) → Turned start g.is.third_at old (one_set buf given group) count (taken + 2) (given + 1)
first_turn start now group old buf count taken given within few t g =
    let m = g.is in
    let text = take count old in
    let r1 = goes_on start now m.second_at m.second_at old buf buf count taken given given 0 (omega (arith, g.inside)) within t.left t.reads m.goes refl refl refl in
    let left1 = passed_over old buf taken t.left in
    record {
      reads =
          shifted start m.third_at text (take (given + 1) (one_set buf given group)) (taken + 1 + 1) (taken + 2) (omega arith)
          (gives_on start m.second_at m.third_at m.third_at old buf (one_set buf given group) count (taken + 1) given (given + 1) group.first 0 (omega (arith, g.inside)) within
          left1 (omega (arith, few)) t.size r1 m.first refl refl refl);
      left = moved_on (one_set buf given group) old (taken + 1 + 1) (taken + 2) (omega arith) (written_over old buf given (taken + 1) group.first (omega (arith, few)) left1);
      size = length-set buf given group.first ∙ t.size;
    }

second_turn : (start now : Spot) (group : Group) (old buf : List ℕ) (count taken given : ℕ) → count ≤ length old → given ≤ taken → Turned start now old buf count taken given
    → (g : IsGroupAt now buf taken count group) → Turned start g.is.fourth_at old (two_set buf given group) count (taken + 3) (given + 2)
second_turn start now group old buf count taken given within few t g =
    let m = g.is in
    let text = take count old in
    let one = first_turn start now group old buf count taken given within few t g in
    let buf1 = one_set buf given group in
    let as_was : drop (taken + 2) buf ≡ drop (taken + 2) buf1 =
    moved_on buf old (taken + 1 + 1) (taken + 2) (omega arith) (passed_over old buf (taken + 1) (passed_over old buf taken t.left)) ∙ sym one.left in
    record {
      reads =
          shifted start m.fourth_at text (take (given + 2) (two_set buf given group)) (taken + 2 + 1) (taken + 3) (omega arith)
          (gives_on start m.third_at m.fourth_at m.fourth_at old buf1 (two_set buf given group) count (taken + 2) (given + 1) (given + 2) group.second 0 (omega (arith, g.inside)) within
          one.left (omega (arith, few)) one.size one.reads (m.second ∙ ap (move_of m.third_at) (same_at buf buf1 (taken + 2) 0 as_was)) refl refl (omega arith));
      left = moved_on (two_set buf given group) old (taken + 2 + 1) (taken + 3) (omega arith) (written_over old buf1 (given + 1) (taken + 2) group.second (omega (arith, few)) one.left);
      size = length-set buf1 (given + 1) group.second ∙ one.size;
    }

pub group_turn : (start now : Spot) (group : Group) (old buf : List ℕ) (count taken given : ℕ) → count ≤ length old → given ≤ taken → Turned start now old buf count taken given
    → IsGroupAt now buf taken count group → Turned start group.next old (all_set buf given group) count (taken + 4) (given + 3)
group_turn start now group old buf count taken given within few t g =
    let m = g.is in
    let text = take count old in
    let two = second_turn start now group old buf count taken given within few t g in
    let buf2 = two_set buf given group in
    let passed : drop (taken + 3) buf ≡ drop (taken + 3) old =
    moved_on buf old (taken + 1 + 1 + 1) (taken + 3) (omega arith) (passed_over old buf (taken + 1 + 1) (passed_over old buf (taken + 1) (passed_over old buf taken t.left))) in
    record {
      reads =
          shifted start group.next text (take (given + 3) (all_set buf given group)) (taken + 3 + 1) (taken + 4) (omega arith)
          (gives_on start m.fourth_at group.next group.next old buf2 (all_set buf given group) count (taken + 3) (given + 2) (given + 3) group.third 0 (omega (arith, g.inside)) within
          two.left (omega (arith, few)) two.size two.reads (m.third ∙ ap (move_of m.fourth_at) (same_at buf buf2 (taken + 3) 0 (passed ∙ sym two.left))) refl refl (omega arith));
      left = moved_on (all_set buf given group) old (taken + 3 + 1) (taken + 4) (omega arith) (written_over old buf2 (given + 2) (taken + 3) group.third (omega (arith, few)) two.left);
      size = length-set buf2 (given + 2) group.third ∙ two.size;
    }

-- ---- runs of groups and of pairs

pub turns_none : (from : Spot) (buf : List ℕ) (count taken given : ℕ) → TurnsOn from from buf buf count taken given taken given
turns_none from buf count taken given = λ start text within t. t

pub turns_group : (from now : Spot) (group : Group) (old buf : List ℕ) (count from_taken from_given taken given : ℕ) → given ≤ taken → TurnsOn from now old buf count from_taken from_given taken given
    → IsGroupAt now buf taken count group → TurnsOn from group.next old (all_set buf given group) count from_taken from_given (taken + 4) (given + 3)
turns_group from now group old buf count from_taken from_given taken given few t g =
    λ start text within before. group_turn start now group text buf count taken given within few (t start text within before) g

-- a pair
pub record IsPairAt (now next : Spot) (text : List ℕ) (at count byte : ℕ) : Type 0 where
  pub inside : at + 2 ≤ count
  pub between : Spot
  pub goes : move.Goes between ≡ move_of now (get_or text at 0)
  pub gives : move.Gives byte next ≡ move_of between (get_or text (at + 1) 0)

pub pair_turn : (start now next : Spot) (old buf : List ℕ) (count taken given byte : ℕ) → count ≤ length old → given ≤ taken → Turned start now old buf count taken given
    → IsPairAt now next buf taken count byte → Turned start next old (set buf given byte) count (taken + 2) (given + 1)
pair_turn start now next old buf count taken given byte within few t p =
    let text = take count old in
    let r1 = goes_on start now p.between p.between old buf buf count taken given given 0 (omega (arith, p.inside)) within t.left t.reads p.goes refl refl refl in
    let left1 = passed_over old buf taken t.left in
    record {
      reads =
          shifted start next text (take (given + 1) (set buf given byte)) (taken + 1 + 1) (taken + 2) (omega arith)
          (gives_on start p.between next next old buf (set buf given byte) count (taken + 1) given (given + 1) byte 0 (omega (arith, p.inside)) within
          left1 (omega (arith, few)) t.size r1 p.gives refl refl refl);
      left = moved_on (set buf given byte) old (taken + 1 + 1) (taken + 2) (omega arith) (written_over old buf given (taken + 1) byte (omega (arith, few)) left1);
      size = length-set buf given byte ∙ t.size;
    }

pub turns_pair : (from now next : Spot) (old buf : List ℕ) (count from_taken from_given taken given byte : ℕ) → given ≤ taken → TurnsOn from now old buf count from_taken from_given taken given
    → IsPairAt now next buf taken count byte → TurnsOn from next old (set buf given byte) count from_taken from_given (taken + 2) (given + 1)
turns_pair from now next old buf count from_taken from_given taken given byte few t p =
    λ start text within before. pair_turn start now next text buf count taken given byte within few (t start text within before) p

use Rattle.std.proofs.Common.{◌≡◌, ◌-◌, ◌≤◌, [], IfSome, refl, ap, subst, ◌∙◌, arith}
use Rattle.jser_records.specs.declared.reading.Reading.{Reading}
use Rattle.jser_records.specs.Frames.{PieceTakes}
use Rattle.jser_records.proofs.HeldLemmas.{holds_on, keeps_rules}
use Rattle.jser_records.proofs.FrameLemmas.{takes_all, takes_cut, takes_more, takes_none}
use Rattle.jser_records.proofs.ToldLemmas.{quiet_both, quiet_changed, quiet_then_changed}
use Rattle.jser_records.proofs.frames.take_bytes.Goals as goal

pub pieces-init : goal.pieces-init
pieces-init g c =
    let was = c.args.clerk.now in
    let begun = record was.current { reading = c.limit.new.self } in
    record {
      quiet =
          quiet_changed was begun _ _
          (keeps_rules was.current begun (record { rules = ap (λ (r : Reading). r.judge.rules) c.limit.ensures.rest; most = ap (λ (r : Reading). r.most) c.limit.ensures.rest }) refl);
      key = ap (λ (r : Reading). r.key) c.limit.ensures.rest;
      few = omega arith;
      sought = refl;
      takes = λ had. takes_none c.args.count c.args.inbox.now was.current begun (c.limit.ensures.counts [] had) (holds_on was.current begun refl refl c.limit.ensures.may);
    }

pub pieces-preserved : goal.pieces-preserved
pieces-preserved g c =
    let size = c.in-Ok-Some.size in
    let count = c.args.count in
    let taken = c.pieces.taken in
    record {
      quiet = quiet_both c.args.clerk.now c.pieces.clerk c.next_piece.new.clerk _ _ _ _ _ _ c.pieces.invariant.quiet c.next_piece.ensures.quiet;
      key = c.next_piece.ensures.key ∙ c.pieces.invariant.key;
      sought = c.in-Ok-Some.ensures.sought ∙ c.pieces.invariant.sought;
      few = let w = subst (λ o. IfSome o (λ n. n ≤ count - taken)) c.in-Ok-Some.field-0-is c.in-Ok-Some.ensures.within in let less = c.if-taken-count.false in omega (arith, w, less);
      takes =
          λ had.
          let x = c.pieces.invariant.takes had in
          takes_more count taken size c.args.inbox.now c.pieces.inbox c.next_piece.new.inbox c.args.clerk.now.current c.pieces.clerk.current c.next_piece.new.clerk.current x
          (subst (λ o. PieceTakes count x.bytes c.pieces.inbox c.next_piece.new.inbox c.pieces.clerk.current c.next_piece.new.clerk.current o) c.in-Ok-Some.field-0-is
          (c.in-Ok-Some.ensures.takes count x.bytes x.counts));
    }

pub returns-in-Ok-None-clause-quiet : goal.returns-in-Ok-None-clause-quiet
returns-in-Ok-None-clause-quiet g c =
    let mid = c.next_piece.new.clerk in
    let last = record mid.current { reading = c.decide.new.self } in
    quiet_then_changed c.args.clerk.now mid (record mid { current = last }) _ _ _ _
    (quiet_both c.args.clerk.now c.pieces.clerk mid _ _ _ _ _ _ c.pieces.invariant.quiet c.next_piece.ensures.quiet) refl
    (keeps_rules mid.current last (record { rules = ap (λ (r : Reading). r.judge.rules) c.decide.ensures; most = ap (λ (r : Reading). r.most) c.decide.ensures }) refl)

pub returns-in-Ok-None-clause-takes : goal.returns-in-Ok-None-clause-takes
returns-in-Ok-None-clause-takes g c = λ had.
    let count = c.args.count in
    let x = c.pieces.invariant.takes had in
    let y =
    subst (λ o. PieceTakes count x.bytes c.pieces.inbox c.next_piece.new.inbox c.pieces.clerk.current c.next_piece.new.clerk.current o) c.in-Ok-None.field-0-is
    (c.in-Ok-None.ensures.takes count x.bytes x.counts) in
    takes_cut count c.pieces.taken c.args.inbox.now c.pieces.inbox c.next_piece.new.inbox c.args.clerk.now.current c.pieces.clerk.current c.next_piece.new.clerk.current
    (record c.next_piece.new.clerk.current { reading = c.decide.new.self }) x y.0 c.if-taken-count.false c.decide.ensures y.1

pub returns-in-Err-clause-quiet : goal.returns-in-Err-clause-quiet
returns-in-Err-clause-quiet g c = quiet_both c.args.clerk.now c.pieces.clerk c.next_piece.new.clerk _ _ _ _ _ _ c.pieces.invariant.quiet c.next_piece.ensures.quiet

pub returns-then-taken-count-clause-takes : goal.returns-then-taken-count-clause-takes
returns-then-taken-count-clause-takes g c = λ had.
    let all : c.pieces.taken ≡ c.args.count = let few = c.pieces.invariant.few in let more = c.if-taken-count.true in omega (arith, few, more) in
    takes_all c.args.count c.pieces.taken c.args.inbox.now c.pieces.inbox c.args.clerk.now.current c.pieces.clerk.current (c.pieces.invariant.takes had) all

pub returns-then-taken-count-clause-sought : goal.returns-then-taken-count-clause-sought
returns-then-taken-count-clause-sought g c = c.pieces.invariant.sought

pub returns-in-Ok-None-clause-sought : goal.returns-in-Ok-None-clause-sought
returns-in-Ok-None-clause-sought g c = c.in-Ok-None.ensures.sought ∙ c.pieces.invariant.sought

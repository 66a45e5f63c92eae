-- `serialcheck_stream_new` reads the pointer in the handle, follows it to what is lent there, and begins a stream under it. The token of the lifetime comes back.
use Rattle.std.specs.Prelude.{◌≢◌}
use Rattle.std.proofs.Common.{◌⊎◌, Bool, true, false, ◌≡◌, ℕ, List, [], ◌∷◌, refl, sym, ◌∙◌, ap, subst, Bor, MutBor, w32}
use seplogic.Ra.Ura.{Ura}
use mir.Syntax.{named}
use mir.Val.{Val, vptr, vbool}
use base.Logic.{SProp, ent, sep, via, fst∗, snd∗, ex_e, never, never_e, emp, id⊢}
use base.Fml.{Lft, Share, Fml, ftrue, fsep, flft, fres, fbor}
use prog.Memory.{Memory}
use prog.Routine.{Routine}
use prog.Wp.{WpFn, Tables}
use types.Logic.{Logic, sem}
use contract.Monad.{Fun, fact, fact_i}
use contract.Running.{tables, tables_of}
use types.SemTy.{Body}
use types.Kit.{at_ret, ‵, raw, ◌⊛◌, some, later, ◌$◌, ◌∵◌, !, qed, by, move, drop, use0, use1, split, join, pick, rewrite, fsplit, fjoin, feq_i, feq_l, suffices, frame, await, done}
use types.Run.{first, branches, exec, addr, stop, of_opd, and_then, no_more, returns, enter}
use types.ByLocal.{alloc_all, pass_all, free_all, look_at, get, through, sets, lands_as, lands_last, env}
use sound.WpLaws.{fm_of, WpFn-mono}
use denote.Exit.{yes}
use denote.Opens.{shr_dup}
use denote.RattleType.{owns}
use denote.Laws.{Is, shows}
use denote.Memory.{hidden_shr, mem, shared_of}
use denote.Builtin.{bool, u32, RefOf}
use denote.Plain.{uint_Lawful}
use denote.RawPtr.{Ptr, block_ptr, null_ptr, block_of, count_of, RawPtr, ptr_val}
use denote.Ref.{shr_vals, shr_Tells, mut_vals, mut_Tells}
use denote.Signature.{plain, types_at}
use denote.Steps.{peeks, heard, nothing, only}
use denote.Struct.Lending.{lent_at}
use denote.Triple.Call.{calls_at, calls_at_last}
use denote.Triple.Clauses.{ensured, lasts}
use denote.Triple.Entry.{on_entry}
use denote.Triple.Spec.{Meets, triple_of}
use denote.Triple.Statement.{Contract, Triple}
use denote.Triple.Table.{entered}
use denote.Triple.Walked.{Stays, stay_dropped, gave_ref, walk_of, Goes-dropped, Goes-gave_ref, ends_at, walked, walk_Meets}
use Rattle.jser_ffi.specs.Holding.{HoldsSuch}
use Rattle.jser_ffi.specs.Lending.{Reading, reads_at, reads, BeginsIn, IsSpent}
use Rattle.jser_ffi.specs.Streams.{Begins}
use Rattle.jser_ffi.specs.Told.{Zeros}
use Rattle.jser_ffi.proofs.LentSteps.{states}
use Rattle.jser_ffi.specs.contracts.compiled.Compiled.{the_row as R}
use Rattle.jser_ffi.specs.contracts.lent_filter.LentFilter.{the_row as B}
use Rattle.jser_ffi.specs.contracts.answer.Answer.{the_row as Out}
use Rattle.jser_ffi.specs.contracts.stream_handle.StreamHandle.{the_row as Hd}
use Rattle.jser_ffi.proofs.lent_filter.LentFilter.TheLaws.{the_row_laws as b_laws}
use Rattle.jser_ffi.specs.contracts.lent_filter.is_open as io
use Rattle.jser_ffi.proofs.lent_filter.is_open.Symbol.{name as #is-open}
use Rattle.jser_ffi.proofs.lent_filter.is_open.Met as io_thm
use Rattle.jser_ffi.specs.contracts.none_begun as sp
use Rattle.jser_ffi.proofs.none_begun.Symbol.{name as #spent}
use Rattle.jser_ffi.proofs.none_begun.Met as sp_thm
use Rattle.jser_ffi.specs.contracts.lent_filter.pointer_of as po
use Rattle.jser_ffi.proofs.lent_filter.pointer_of.Symbol.{name as #pointer-of}
use Rattle.jser_ffi.proofs.lent_filter.pointer_of.Met as po_thm
use Rattle.jser_ffi.specs.contracts.begun_under as ck
use Rattle.jser_ffi.proofs.begun_under.Symbol.{name as #check}
use Rattle.jser_ffi.proofs.begun_under.Met as ck_thm
use Rattle.jser_ffi.specs.contracts.serialcheck_stream_new as f
use Rattle.jser_ffi.specs.contracts.serialcheck_stream_new.Key.{name as key}
use Rattle.jser_ffi.proofs.serialcheck_stream_new.Statement as stated
use Rattle.jser_ffi.proofs.serialcheck_stream_new.Code as code

abbrev stayed : Stays (f.ended).signature.params (f.ended).kept
stayed = (
  stay_dropped (RefOf (0 ∷ []) tt (plain (λ _. B)) (λ _. tt)) yes,
  (gave_ref (1 ∷ []) tt (plain (λ _. Out)), (gave_ref (2 ∷ []) tt (plain (λ _. Hd)), tt)),
)

module _ {M : Type 1} {𝓤 : Ura M} (𝓛 : Logic 𝓤) (at_mem : Memory → SProp 𝓤) (run : Routine → Fun 𝓤) where
  abbrev Po : Contract 𝓤
  Po = triple_of 𝓛 po.signature (po.spec 𝓛 at_mem run)

  abbrev Io : Contract 𝓤
  Io = triple_of 𝓛 io.signature (io.spec 𝓛 at_mem run)

  abbrev Sp : Contract 𝓤
  Sp = triple_of 𝓛 sp.signature (sp.spec 𝓛 at_mem run)

  abbrev Ck : Contract 𝓤
  Ck = triple_of 𝓛 ck.signature (ck.spec 𝓛 at_mem run)

module _ {M : Type 1} {𝓤 : Ura M} (𝓛 : Logic 𝓤) (at_mem : Memory → SProp 𝓤) (run : Routine → Fun 𝓤) (𝓣 : Tables 𝓤 𝓛.H)
    (opens : Triple 𝓤 (𝓣.C #is-open) (Io 𝓛 at_mem run)) (spends : Triple 𝓤 (𝓣.C #spent) (Sp 𝓛 at_mem run)) (points : Triple 𝓤 (𝓣.C #pointer-of) (Po 𝓛 at_mem run)) (checks : Triple 𝓤 (𝓣.C #check) (Ck 𝓛 at_mem run)) where
  open 𝓛 use {H}

  module _ (κ κ₁ κ₂ : Lft) (q q₁ q₂ : Share) (d : Bor B.Denot) (m : MutBor Out.Denot) (n : MutBor Hd.Denot) (g : Reading) where
    abbrev bound : (walk_of 𝓛 f.ended stayed (f.clauses 𝓛 at_mem run)).Ghost
    bound = (((κ, (κ₁, (κ₂, tt))), (q, (q₁, (q₂, tt))), tt, (d, (m, (n, tt))), (shr_vals d, (mut_vals m, (mut_vals n, tt)))), g)

    abbrev Post : Val → SProp 𝓤
    Post = (walk_of 𝓛 f.ended stayed (f.clauses 𝓛 at_mem run)).post bound

    abbrev Goes : SProp 𝓤
    Goes = WpFn 𝓤 H 𝓣.C 𝓣.Λ code.function (vptr d.ref_ptr.0 d.ref_ptr.1 ∷ vptr m.ref_ptr.0 m.ref_ptr.1 ∷ vptr n.ref_ptr.0 n.ref_ptr.1 ∷ []) Post

    -- what is had of the parameters at the end: the answer and the stream's handle were given up to the callee, which says
    -- their last values
    abbrev Gave : Out.Denot → Hd.Denot → Fml
    Gave w u = fsep (fsep (fres m.ghost_name (Out.coded.code w)) (fbor κ₁ (Body (mem Out) m.ref_ptr.0 m.ref_ptr.1 m.ghost_name))) (fsep (fsep (fres n.ghost_name (Hd.coded.code u)) (fbor κ₂ (Body (mem Hd) n.ref_ptr.0 n.ref_ptr.1 n.ghost_name))) ftrue)

    abbrev Had : Out.Denot → Hd.Denot → Fml
    Had w u = fsep ftrue (Gave w u)

    exits : (r : ℕ) (v : Val) (w : Out.Denot) (u : Hd.Denot) → r ≡ w.status → (d.now.is_open ≡ true → r ≡ 4 → HoldsSuch (Begins g.compiled) u.owner.held)
        → (d.now.is_open ≡ false → r ≡ 5) → (r ≢ 4 → u ≡ n.now) → (d.now.is_open ≡ true → (r ≡ 4) ⊎ (r ≡ 3)) → Zeros w
        → ent 𝓤 (sep 𝓤 (sem 𝓛 (u32.own_val r (v ∷ []))) (sep 𝓤 (sem 𝓛 (Had w u)) (sep 𝓤 (sep 𝓤 (sem 𝓛 (flft κ q)) (sep 𝓤 (sem 𝓛 (flft κ₁ q₁)) (sep 𝓤 (sem 𝓛 (flft κ₂ q₂)) (sem 𝓛 ftrue)))) (sem 𝓛 (flft g.life g.share))))) (Post v)
    exits r v w u status began empty' kept known zeros =
        qed 𝓛 (‵ (u32.own_val r (v ∷ [])) ∷ ‵ (Had w u) ∷ (‵ (flft κ q) ⊛ (‵ (flft κ₁ q₁) ⊛ (‵ (flft κ₂ q₂) ⊛ ‵ ftrue))) ∷ ‵ (flft g.life g.share) ∷ []) ∵
        suffices ! _ (ends_at 𝓛 f.ended stayed (f.clauses 𝓛 at_mem run) bound v r (tt, (w, (u, tt))) (tt, (tt, (tt, tt)))) $
        move ! (1 ∷ 0 ∷ []) $ join ! $ move ! (1 ∷ 0 ∷ []) $ join ! $ frame ! $ frame ! $ states ! status $ states ! began $ states ! empty' $ states ! kept $ states ! known $ use0 𝓛 (raw (fact 𝓤 (Zeros w))) (fact_i 𝓤 (Zeros w) (emp 𝓤) zeros) $ done !

    abbrev Entry : SProp 𝓤
    Entry = on_entry 𝓛 f.signature (κ, (κ₁, (κ₂, tt))) (q, (q₁, (q₂, tt))) (d, (m, (n, tt))) (shr_vals d, (mut_vals m, (mut_vals n, tt)))

    module _ (b o : ℕ) (op : d.now.is_open ≡ true) (is : d.now.at ≡ block_ptr b o) where
      walk : ent 𝓤 (sep 𝓤 Entry (sem 𝓛 (reads d.now.is_open d.now.at g))) Goes
      walk =
          qed 𝓛 (((‵ (flft κ q) ⊛ (‵ (flft κ₁ q₁) ⊛ (‵ (flft κ₂ q₂) ⊛ ‵ ftrue))) ⊛ ‵ (owns (types_at (f.ended).signature.params (κ, (κ₁, (κ₂, tt)))) (d, (m, (n, tt))) (shr_vals d, (mut_vals m, (mut_vals n, tt))))) ∷ ‵ (reads d.now.is_open d.now.at g) ∷ []) ∵
          -- what there is, apart
          move ! (1 ∷ []) $ rewrite ! 0 (λ (y : Bool). ‵ (reads y d.now.at g)) op refl $
          rewrite ! 0 (λ (p : Ptr). ‵ (reads_at p g)) is refl $
          fsplit ! $ move ! (1 ∷ []) $ fsplit ! $ drop ! $ use1 𝓛 (‵ (hidden_shr R g.life g.compiled b o)) (id⊢ 𝓤 _) $
          move ! (2 ∷ []) $ split ! $ split ! $ move ! (1 ∷ []) $ split ! $ move ! (1 ∷ []) $ split ! $ move ! (1 ∷ []) $ drop ! $
          -- [the token of the stream's handle; that of the answer; that of the filter's; all three; what is lent, if it is; the token of that]
          move ! (3 ∷ []) $ fsplit ! $ move ! (1 ∷ []) $ fsplit ! $ move ! (1 ∷ []) $ fsplit ! $ move ! (1 ∷ []) $ drop ! $
          -- [the stream's handle; the answer; the filter's; the tokens of the three; ..]
          enter ! 𝓣.C 𝓣.Λ code.function (vptr d.ref_ptr.0 d.ref_ptr.1 ∷ vptr m.ref_ptr.0 m.ref_ptr.1 ∷ vptr n.ref_ptr.0 n.ref_ptr.1 ∷ []) _ $
          alloc_all ! (λ l. pass_all ! refl ((tt, tt), ((tt, tt), ((tt, tt), tt))) $
          -- is_open(filter)
          move ! (2 ∷ []) $ fsplit ! $ drop ! $ shr_dup ! B b_laws.shr_laws d.now d.ref_ptr.0 d.ref_ptr.1 κ $
          feq_i ! (List Val) (shr_vals d) (shr_vals d) refl $ fjoin ! $
          let y₀ : (Io 𝓛 at_mem run).Ghost = (((κ, tt), (q, tt), tt, (d, tt), (shr_vals d, tt)), tt) in
          nothing ! $ move ! (1 ∷ 0 ∷ []) $ fjoin ! $ nothing ! $ move ! (7 ∷ 0 ∷ []) $ join ! $ join ! $ nothing ! $ move ! (1 ∷ 0 ∷ []) $ join ! $ use1 𝓛 (raw ((Io 𝓛 at_mem run).pre y₀)) (id⊢ 𝓤 ((Io 𝓛 at_mem run).pre y₀)) $
          calls_at ! (fm_of 𝓤 H 𝓛.laws 𝓣) (Io 𝓛 at_mem run) opens y₀ (and_then ! (get ! refl) (no_more !)) (λ u₀.
          use1 𝓛 (later (some (λ (r : Bool). ((‵ (flft κ q) ⊛ ‵ ftrue) ⊛ ‵ (bool.own_val r (u₀ ∷ []))) ⊛ raw (ensured 𝓛 io.ended (io.clauses 𝓛 at_mem run) (κ, tt) (d, tt) tt r)))) (id⊢ 𝓤 _) $ await ! tt $ pick ! (λ r₀.
          split ! $ move ! (1 ∷ []) $ use1 𝓛 (raw (fact 𝓤 (r₀ ≡ d.now.is_open))) (ex_e 𝓤 _ (λ ws. snd∗ 𝓤 (sem 𝓛 (lasts io.ended (κ, tt) (d, tt) ws)) (fact 𝓤 (r₀ ≡ d.now.is_open)))) $
          heard ! (r₀ ≡ d.now.is_open) (λ er₀. split ! $ split ! $ move ! (1 ∷ []) $ drop ! $ move ! (1 ∷ []) $
          peeks ! bool (Is bool) (shows 𝓛 bool) r₀ (u₀ ∷ []) (λ gb. drop ! $ lands_as ! (ap only gb ∙ ap vbool (er₀ ∙ op)) refl (tt, tt) $
          first ! $ branches ! (get ! refl) (λ yes'.
          -- pointer_of(filter)
          move ! (1 ∷ []) $ feq_i ! (List Val) (shr_vals d) (shr_vals d) refl $ fjoin ! $
          let y : (Po 𝓛 at_mem run).Ghost = (((κ, tt), (q, tt), tt, (d, tt), (shr_vals d, tt)), tt) in
          nothing ! $ move ! (1 ∷ 0 ∷ []) $ fjoin ! $ nothing ! $ move ! (2 ∷ 0 ∷ []) $ join ! $ join ! $ nothing ! $ move ! (1 ∷ 0 ∷ []) $ join ! $ use1 𝓛 (raw ((Po 𝓛 at_mem run).pre y)) (id⊢ 𝓤 ((Po 𝓛 at_mem run).pre y)) $
          calls_at ! (fm_of 𝓤 H 𝓛.laws 𝓣) (Po 𝓛 at_mem run) points y (and_then ! (get ! refl) (no_more !)) (λ u.
          use1 𝓛 (later (some (λ (r : Ptr). ((‵ (flft κ q) ⊛ ‵ ftrue) ⊛ ‵ (RawPtr.own_val r (u ∷ []))) ⊛ raw (ensured 𝓛 po.ended (po.clauses 𝓛 at_mem run) (κ, tt) (d, tt) tt r)))) (id⊢ 𝓤 _) $ await ! tt $ pick ! (λ r.
          split ! $ move ! (1 ∷ []) $ use1 𝓛 (raw (fact 𝓤 (r ≡ d.now.at))) (ex_e 𝓤 _ (λ ws. snd∗ 𝓤 (sem 𝓛 (lasts po.ended (κ, tt) (d, tt) ws)) (fact 𝓤 (r ≡ d.now.at)))) $
          heard ! (r ≡ d.now.at) (λ er. split ! $ split ! $ move ! (1 ∷ []) $ drop ! $ move ! (1 ∷ []) $
          feq_l ! (λ eu. lands_as ! (ap only eu ∙ ap ptr_val (er ∙ is)) refl (tt, tt) $
          sets ! (of_opd ! (get ! refl)) refl (tt, tt) $ sets ! (addr ! (through ! refl (stop !))) refl (tt, tt) $ sets ! (addr ! (through ! refl (stop !))) refl (tt, tt) $ sets ! (addr ! (through ! refl (stop !))) refl (tt, tt) $
          -- [the token of the filter's handle; the stream's; the answer; their tokens; what is lent; the token of that]
          let h : Bor R.Denot = record { ref_ptr = (b, o); now = g.compiled } in
          let z : (Ck 𝓛 at_mem run).Ghost = (((g.life, (κ₁, (κ₂, tt))), (g.share, (q₁, (q₂, tt))), tt, (h, (m, (n, tt))), (vptr b o ∷ [], (mut_vals m, (mut_vals n, tt)))), tt) in
          nothing ! $ move ! (2 ∷ 0 ∷ []) $ fjoin ! $ move ! (2 ∷ 0 ∷ []) $ fjoin ! $ move ! (4 ∷ []) $ feq_i ! (List Val) (vptr b o ∷ []) (vptr b o ∷ []) refl $ fjoin ! $ fjoin ! $
          nothing ! $ move ! (3 ∷ 0 ∷ []) $ join ! $ move ! (3 ∷ 0 ∷ []) $ join ! $ move ! (3 ∷ 0 ∷ []) $ join ! $ join ! $ nothing ! $ move ! (1 ∷ 0 ∷ []) $ join ! $ use1 𝓛 (raw ((Ck 𝓛 at_mem run).pre z)) (id⊢ 𝓤 ((Ck 𝓛 at_mem run).pre z)) $
          calls_at_last ! (fm_of 𝓤 H 𝓛.laws 𝓣) (Ck 𝓛 at_mem run) checks z (and_then ! (get ! refl) (and_then ! (get ! refl) (and_then ! (get ! refl) (no_more !)))) (λ v.
          use1 𝓛 (later (some (λ (r : ℕ). ((‵ (flft g.life g.share) ⊛ (‵ (flft κ₁ q₁) ⊛ (‵ (flft κ₂ q₂) ⊛ ‵ ftrue))) ⊛ ‵ (u32.own_val r (v ∷ []))) ⊛ some (λ (ws : Unit {0} × (Out.Denot × (Hd.Denot × Unit {0}))). ‵ (Had ws.1.0 ws.1.1.0) ⊛ raw (fact 𝓤 (BeginsIn g.compiled n.now ws.1.1.0 ws.1.0 r)))))) (id⊢ 𝓤 _) $ await ! tt $ pick ! (λ r'.
          split ! $ move ! (1 ∷ []) $ pick ! (λ ws. split ! $ move ! (1 ∷ []) $
          heard ! (BeginsIn g.compiled n.now ws.1.1.0 ws.1.0 r') (λ e'. move ! (1 ∷ []) $ split ! $ split ! $ move ! (2 ∷ []) $
          peeks ! u32 (Is u32) (shows 𝓛 u32) r' (v ∷ []) (λ given. let typed = ((uint_Lawful 𝓛 w32).typed r' (v ∷ []) given).0 in
          lands_last ! refl typed $ exec ! 𝓣.C 𝓣.Λ (env code.function.locals l) code.Mir.t-3 (at_ret (env code.function.locals l) Post) $ sets ! (of_opd ! (get ! refl)) refl typed $
          returns ! (look_at ! 0 refl) $ free_all ! refl $ move ! (4 ∷ 2 ∷ []) $ join ! $ move ! (1 ∷ 3 ∷ 0 ∷ []) $ by ! (exits r' v ws.1.0 ws.1.1.0 e'.status (λ yes. e'.begins) (λ no. absurd (cc)) e'.kept (λ yes. e'.known) e'.zeros))))))))))) (λ no'. absurd no'))))))

    empty : d.now.is_open ≡ false → ent 𝓤 (sep 𝓤 Entry (sem 𝓛 (reads d.now.is_open d.now.at g))) Goes
    empty op =
        qed 𝓛 (((‵ (flft κ q) ⊛ (‵ (flft κ₁ q₁) ⊛ (‵ (flft κ₂ q₂) ⊛ ‵ ftrue))) ⊛ ‵ (owns (types_at (f.ended).signature.params (κ, (κ₁, (κ₂, tt)))) (d, (m, (n, tt))) (shr_vals d, (mut_vals m, (mut_vals n, tt))))) ∷ ‵ (reads d.now.is_open d.now.at g) ∷ []) ∵
        -- what there is, apart
        move ! (1 ∷ []) $ rewrite ! 0 (λ (y : Bool). ‵ (reads y d.now.at g)) op refl $
        move ! (1 ∷ []) $ split ! $ split ! $ move ! (1 ∷ []) $ split ! $ move ! (1 ∷ []) $ split ! $ move ! (1 ∷ []) $ drop ! $
        -- [the token of the stream's handle; that of the answer; that of the filter's; all three; what is lent, if it is; the token of that]
        move ! (3 ∷ []) $ fsplit ! $ move ! (1 ∷ []) $ fsplit ! $ move ! (1 ∷ []) $ fsplit ! $ move ! (1 ∷ []) $ drop ! $
        -- [the stream's handle; the answer; the filter's; the tokens of the three; ..]
        enter ! 𝓣.C 𝓣.Λ code.function (vptr d.ref_ptr.0 d.ref_ptr.1 ∷ vptr m.ref_ptr.0 m.ref_ptr.1 ∷ vptr n.ref_ptr.0 n.ref_ptr.1 ∷ []) _ $
        alloc_all ! (λ l. pass_all ! refl ((tt, tt), ((tt, tt), ((tt, tt), tt))) $
        -- is_open(filter)
        move ! (2 ∷ []) $ fsplit ! $ drop ! $ shr_dup ! B b_laws.shr_laws d.now d.ref_ptr.0 d.ref_ptr.1 κ $
        feq_i ! (List Val) (shr_vals d) (shr_vals d) refl $ fjoin ! $
        let y₀ : (Io 𝓛 at_mem run).Ghost = (((κ, tt), (q, tt), tt, (d, tt), (shr_vals d, tt)), tt) in
        nothing ! $ move ! (1 ∷ 0 ∷ []) $ fjoin ! $ nothing ! $ move ! (7 ∷ 0 ∷ []) $ join ! $ join ! $ nothing ! $ move ! (1 ∷ 0 ∷ []) $ join ! $ use1 𝓛 (raw ((Io 𝓛 at_mem run).pre y₀)) (id⊢ 𝓤 ((Io 𝓛 at_mem run).pre y₀)) $
        calls_at ! (fm_of 𝓤 H 𝓛.laws 𝓣) (Io 𝓛 at_mem run) opens y₀ (and_then ! (get ! refl) (no_more !)) (λ u₀.
        use1 𝓛 (later (some (λ (r : Bool). ((‵ (flft κ q) ⊛ ‵ ftrue) ⊛ ‵ (bool.own_val r (u₀ ∷ []))) ⊛ raw (ensured 𝓛 io.ended (io.clauses 𝓛 at_mem run) (κ, tt) (d, tt) tt r)))) (id⊢ 𝓤 _) $ await ! tt $ pick ! (λ r₀.
        split ! $ move ! (1 ∷ []) $ use1 𝓛 (raw (fact 𝓤 (r₀ ≡ d.now.is_open))) (ex_e 𝓤 _ (λ ws. snd∗ 𝓤 (sem 𝓛 (lasts io.ended (κ, tt) (d, tt) ws)) (fact 𝓤 (r₀ ≡ d.now.is_open)))) $
        heard ! (r₀ ≡ d.now.is_open) (λ er₀. split ! $ split ! $ move ! (1 ∷ []) $ drop ! $ move ! (1 ∷ []) $
        peeks ! bool (Is bool) (shows 𝓛 bool) r₀ (u₀ ∷ []) (λ gb. drop ! $ lands_as ! (ap only gb ∙ ap vbool (er₀ ∙ op)) refl (tt, tt) $
        first ! $ branches ! (get ! refl) (λ yes'. absurd yes') (λ no'.
        sets ! (addr ! (through ! refl (stop !))) refl (tt, tt) $ sets ! (addr ! (through ! refl (stop !))) refl (tt, tt) $
        -- [the token of the filter's handle; that handle; the stream's; the answer; their tokens; that of what is lent]
        move ! (1 ∷ []) $ drop ! $
        let z : (Sp 𝓛 at_mem run).Ghost = (((κ₁, (κ₂, tt)), (q₁, (q₂, tt)), tt, (m, (n, tt)), (mut_vals m, (mut_vals n, tt))), tt) in
        nothing ! $ move ! (2 ∷ 0 ∷ []) $ fjoin ! $ move ! (2 ∷ 0 ∷ []) $ fjoin ! $ nothing ! $ move ! (3 ∷ 0 ∷ []) $ join ! $ move ! (3 ∷ 0 ∷ []) $ join ! $ join ! $ nothing ! $ move ! (1 ∷ 0 ∷ []) $ join ! $ use1 𝓛 (raw ((Sp 𝓛 at_mem run).pre z)) (id⊢ 𝓤 ((Sp 𝓛 at_mem run).pre z)) $
        calls_at_last ! (fm_of 𝓤 H 𝓛.laws 𝓣) (Sp 𝓛 at_mem run) spends z (and_then ! (get ! refl) (and_then ! (get ! refl) (no_more !))) (λ v.
        use1 𝓛 (later (some (λ (r : ℕ). ((‵ (flft κ₁ q₁) ⊛ (‵ (flft κ₂ q₂) ⊛ ‵ ftrue)) ⊛ ‵ (u32.own_val r (v ∷ []))) ⊛ some (λ (ws : Out.Denot × (Hd.Denot × Unit {0})). ‵ (Gave ws.0 ws.1.0) ⊛ raw (fact 𝓤 (IsSpent ws.0 r × (ws.1.0 ≡ n.now))))))) (id⊢ 𝓤 _) $ await ! tt $ pick ! (λ r'.
        split ! $ move ! (1 ∷ []) $ pick ! (λ ws. split ! $ move ! (1 ∷ []) $
        heard ! (IsSpent ws.0 r' × (ws.1.0 ≡ n.now)) (λ e'. nothing ! $ fjoin ! $ move ! (1 ∷ []) $ split ! $ move ! (1 ∷ []) $
        peeks ! u32 (Is u32) (shows 𝓛 u32) r' (v ∷ []) (λ given. let typed = ((uint_Lawful 𝓛 w32).typed r' (v ∷ []) given).0 in
        lands_last ! refl typed $ exec ! 𝓣.C 𝓣.Λ (env code.function.locals l) code.Mir.t-3 (at_ret (env code.function.locals l) Post) $ sets ! (of_opd ! (get ! refl)) refl typed $
        returns ! (look_at ! 0 refl) $ free_all ! refl $
        -- [the result; the tokens of the answer and the stream's handle; what is had; the token of the filter's handle; that of what is lent]
        move ! (3 ∷ 1 ∷ []) $ join ! $ move ! (1 ∷ 2 ∷ 0 ∷ []) $ by ! (exits r' v ws.0 ws.1.0 e'.0.status (λ yes. absurd (cc)) (λ no. e'.0.is) (λ more. e'.1) (λ yes. absurd (cc)) e'.0.zeros))))))))))))

    nowhere : d.now.is_open ≡ true → d.now.at ≡ null_ptr → ent 𝓤 (sep 𝓤 Entry (sem 𝓛 (reads d.now.is_open d.now.at g))) Goes
    nowhere op is =
        subst (λ (y : Bool). ent 𝓤 (sep 𝓤 Entry (sem 𝓛 (reads y d.now.at g))) Goes) (sym op)
        (subst (λ (p : Ptr). ent 𝓤 (sep 𝓤 Entry (sem 𝓛 (reads_at p g))) Goes) (sym is)
        (via 𝓤 (never 𝓤)
        (via 𝓤 (sem 𝓛 (reads_at null_ptr g)) (snd∗ 𝓤 Entry (sem 𝓛 (reads_at null_ptr g)))
        (via 𝓤 (sem 𝓛 (lent_at R null_ptr g.compiled g.life)) (snd∗ 𝓤 (sem 𝓛 (flft g.life g.share)) (sem 𝓛 (lent_at R null_ptr g.compiled g.life)))
        (fst∗ 𝓤 (never 𝓤) (sem 𝓛 (shared_of R g.compiled (block_of null_ptr) (count_of null_ptr) g.life)))))
        (never_e 𝓤 Goes)))

    at_each : (y : Bool) (p : Ptr) → d.now.is_open ≡ y → d.now.at ≡ p → ent 𝓤 (sep 𝓤 Entry (sem 𝓛 (reads d.now.is_open d.now.at g))) Goes
    at_each true (block_ptr b o) op is = walk b o op is
    at_each true null_ptr op is = nowhere op is
    at_each false p op is = empty op

  meets : Meets 𝓛 f.signature (WpFn 𝓤 H 𝓣.C 𝓣.Λ code.function) (f.spec 𝓛 at_mem run)
  meets =
      walk_Meets 𝓛 f.ended stayed (
        Goes-dropped 𝓛 3 (RefOf (0 ∷ []) tt (plain (λ _. B)) (λ _. tt)) yes (λ κs x w. refl),
        (Goes-gave_ref 𝓛 3 1 tt (plain (λ _. Out)), (Goes-gave_ref 𝓛 3 2 tt (plain (λ _. Hd)), tt)),
      ) (f.clauses 𝓛 at_mem run) (WpFn 𝓤 H 𝓣.C 𝓣.Λ code.function) (WpFn-mono 𝓤 H 𝓛.laws 𝓣 code.function)
      (walked 𝓛 f.ended stayed (f.clauses 𝓛 at_mem run) (WpFn 𝓤 H 𝓣.C 𝓣.Λ code.function) (λ κs. (shr_vals, (mut_vals, (mut_vals, tt)))) (λ κs. (shr_Tells (named 0) κs.0 B, (mut_Tells (named 1) κs.1.0 Out, (mut_Tells (named 2) κs.1.1.0 Hd, tt))))
      (λ κs qs bounds a g are. at_each κs.0 κs.1.0 κs.1.1.0 qs.0 qs.1.0 qs.1.1.0 a.0 a.1.0 a.1.1.0 g a.0.now.is_open a.0.now.at refl refl))

pub serialcheck_stream_new_spec : {M : Type 1} → stated.statement M
unfolding tables_of
serialcheck_stream_new_spec 𝓤 𝓛 𝓜 𝓡 wired =
    let 𝓣 : Tables 𝓤 𝓛.H = tables_of 𝓤 𝓛.H 𝓜 (tables 𝓤 𝓛.H 𝓜 𝓡 𝓡.env) in
    entered 𝓤 𝓛.H (triple_of 𝓛 f.signature (f.spec 𝓛 𝓜.mem 𝓡.returns)) 𝓣.C 𝓣.Λ key code.function (code.unfolded 𝓤 𝓛.H 𝓜 𝓡 wired)
    (meets 𝓛 𝓜.mem 𝓡.returns 𝓣
    (io_thm.met 𝓤 𝓛 𝓜 𝓡 (code.calls-jser_ffi::lent_filter::is_open 𝓡.env wired))
    (sp_thm.met 𝓤 𝓛 𝓜 𝓡 (code.calls-jser_ffi::none_begun 𝓡.env wired))
    (po_thm.met 𝓤 𝓛 𝓜 𝓡 (code.calls-jser_ffi::lent_filter::pointer_of 𝓡.env wired))
    (ck_thm.met 𝓤 𝓛 𝓜 𝓡 (code.calls-jser_ffi::begun_under 𝓡.env wired)))

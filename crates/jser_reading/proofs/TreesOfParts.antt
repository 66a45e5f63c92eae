-- Trees out of their parts: where the tokens of the parts remain, the tokens of one tree of them do.
use Rattle.std.proofs.Common.{◌≡◌, ℕ, zero, suc, ◌^◌, ◌<◌, Bool, true, false, if◌then◌else◌, List, [], ◌∷◌, length, refl, ◌∙◌, ap, arith, Option, Some, None, MatchBool}
use Rattle.jser_reading.proofs.Vocabulary.{has_write_method, pending_entry, name_kind, Layer, PrimCode, primitive_codes, object_count, PrimTree, plain, proxy, BodyTree, raw_body, value_body, ValueTrees, no_values, value_and, section, SectionTrees, no_sections, section_and, NotesTree, no_notes, annotation, value_count, add, codes_of, after_fields, after_contents, chain_of_class, ArePrims, IsBytes, WellFormedBody, WellFormedValues, WellFormedExternal, WellFormedSections, WellFormedNotesIf, Role, ProxyFits, Moment, assign, next_number, past_value, past_body, past_values, past_sections, past_notes, class_desc_tag, proxy_desc_tag, tag_token, prims_token, value_at, raw_at, Piece, at, tag_of, cut_bytes, cut_prims, cut_value, cut_body, cut_values, cut_external, cut_sections, cut_notes, Part, prim_parts, value_parts, annotation_if, section_parts, object_parts, body_parts}
use Rattle.jser_grammar.specs.Counts.{array_length}
use Rattle.jser_reading.proofs.RoleLemmas.{plain_fits, proxy_fits}
use Rattle.jser_reading.proofs.Remaining.{Behind, RemainsParts, RemainsBytes, RemainsName, RemainsInterfaceCount, RemainsDesc}

not_none : (n : ℕ) → 0 ≡ suc n → ⊥
not_none n e = absurd (omega arith)

pub bytes_remain : (n d : ℕ) (m : Moment) (K : Behind) (fs : List Piece) → RemainsBytes d n m K fs
    → (bytes : List ℕ) × (r : List Piece) × IsBytes bytes × (length bytes ≡ n) × (fs ≡ cut_bytes d m bytes r) × K m r
bytes_remain zero d m K fs h = ([], fs, refl, refl, refl, h)
bytes_remain (suc n) d m K fs ([], r, a, e, k) = absurd (not_none n a.1)
bytes_remain (suc n) d m K fs (b ∷ bs, r, a, e, k) = (b ∷ bs, r, a.0, a.1, rw a.1 e, k)

prims_remain : (cs : List PrimCode) (parts : List Part) (d : ℕ) (m : Moment) (K : Behind) (fs : List Piece)
    → RemainsParts d (prim_parts cs parts) m K fs
    → (ps : List PrimTree) × (r : List Piece) × ArePrims cs ps × (fs ≡ cut_prims d m cs ps r) × RemainsParts d parts m K r
prims_remain [] parts d m K fs h = ([], fs, tt, refl, h)
prims_remain (c ∷ cs) parts d m K fs ([], r1, a, e, k) = absurd (not_none 0 a.0)
prims_remain (c ∷ cs) parts d m K fs (p ∷ q ∷ ps, r1, a, e, k) = let z : suc (suc (length ps)) ≡ 1 = a.0 in absurd (omega arith)
prims_remain (c ∷ cs) parts d m K fs (p ∷ [], r1, a, e, k) =
    let x = prims_remain cs parts d m K r1 k in
    (p ∷ x.0, x.1, (a.1.0, x.2), e ∙ ap (λ y. at (raw_at c 1) d m (prims_token (p ∷ [])) ∷ y) x.3, x.4)

values_remain : (n : ℕ) (parts : List Part) (d : ℕ) (m : Moment) (K : Behind) (fs : List Piece)
    → RemainsParts d (value_parts n parts) m K fs
    → (vs : ValueTrees) × (r : List Piece) × (value_count vs ≡ n) × WellFormedValues m.table vs × (fs ≡ cut_values d m vs r)
    × RemainsParts d parts (past_values m vs) K r
values_remain zero parts d m K fs h = (no_values, fs, refl, tt, refl, h)
values_remain (suc n) parts d m K fs (v, r1, w, e, k) =
    let x = values_remain n parts d (past_value m v) K r1 k in (
      value_and v x.0,
      x.1,
      ap (λ n. suc n) x.2,
      (w, x.3),
      e ∙ ap (λ y. at value_at (suc d) m (tag_token (tag_of v))
          ∷ cut_value (suc d) m v y) x.4,
      x.5,
    )

notes_remain : (expected : Bool) (parts : List Part) (d : ℕ) (m : Moment) (K : Behind) (fs : List Piece)
    → RemainsParts d (annotation_if expected parts) m K fs
    → (n : NotesTree) × (r : List Piece) × WellFormedNotesIf m.table n expected × (fs ≡ cut_notes d m n r)
    × RemainsParts d parts (past_notes m n) K r
notes_remain false parts d m K fs h = (no_notes, fs, refl, refl, h)
notes_remain true parts d m K fs (cs, r, w, e, k) = (annotation cs, r, (refl, w), e, k)

sections_remain : (chain : List Layer) (d : ℕ) (m : Moment) (K : Behind) (fs : List Piece)
    → RemainsParts d (section_parts chain) m K fs
    → (ss : SectionTrees) × (r : List Piece) × WellFormedSections m.table ss chain × (fs ≡ cut_sections d m chain ss r)
    × K (past_sections m ss) r
sections_remain [] d m K fs h = (no_sections, fs, tt, refl, h)
sections_remain (l ∷ ls) d m K fs h =
    let noted = annotation_if (has_write_method l.flags) (section_parts ls) in
    let x = prims_remain (primitive_codes l.codes) (value_parts (object_count l.codes) noted) d m K fs h in
    let y = values_remain (object_count l.codes) noted d m K x.1 x.4 in
    let n = notes_remain (has_write_method l.flags) (section_parts ls) d (past_values m y.0) K y.1 y.5 in
    let z = sections_remain ls d (past_notes (past_values m y.0) n.0) K n.1 n.4 in (
      section_and (section x.0 y.0 n.0) z.0,
      z.1,
      (x.2, y.2, y.3, n.2, z.2),
      x.3 ∙ ap (λ r. cut_prims d m (primitive_codes l.codes) x.0 r)
          (y.4 ∙ ap (λ r. cut_values d m y.0 r) (n.3 ∙ ap (λ r. cut_notes d (past_values m y.0) n.0 r) z.3)),
      z.4,
    )

pub object_remains : (external : Bool) (chain : List Layer) (d : ℕ) (m : Moment) (K : Behind) (fs : List Piece)
    → RemainsParts d (object_parts external chain) m K fs
    → (ss : SectionTrees) × (r : List Piece)
    × MatchBool external (WellFormedExternal m.table ss) (WellFormedSections m.table ss chain)
    × (fs ≡ (if external then cut_external d m ss r else cut_sections d m chain ss r)) × K (past_sections m ss) r
object_remains true chain d m K fs (cs, r, w, e, k) = (section_and (section [] no_values (annotation cs)) no_sections, r, w, e, k)
object_remains false chain d m K fs h = sections_remain chain d m K fs h

pub body_remains : (elements : Option PrimCode) (n d : ℕ) (m : Moment) (K : Behind) (fs : List Piece) → n < 2 ^ 31
    → RemainsParts d (body_parts elements n) m K fs
    → (b : BodyTree) × (r : List Piece) × (array_length b ≡ n) × WellFormedBody m.table b elements
    × (fs ≡ cut_body d m elements b r) × K (past_body m b) r
body_remains (Some c) zero d m K fs l h = (raw_body [], fs, refl, (l, tt), refl, h)
body_remains (Some c) (suc n) d m K fs l ([], r, a, e, k) = absurd (not_none n a.0)
body_remains (Some c) (suc n) d m K fs l (p ∷ ps, r, a, e, k) = (raw_body (p ∷ ps), r, a.0, (rw a.0 l, a.1), rw a.0 e, k)
body_remains None n d m K fs l h =
    let x = values_remain n [] d m K fs h in
    (value_body x.0, x.1, x.2, (rw x.2 l, x.3), x.4, x.5)

pub plain_remains : (role : Role) (d : ℕ) (m : Moment) (K : Behind) (fs : List Piece) → RemainsName role d m K fs
    → RemainsDesc class_desc_tag role d m K fs
plain_remains role d m K fs (
  u,
  r1,
  a1,
  e1,
  (
    sn,
    r2,
    a2,
    e2,
    (f, r3, a3, e3, (n, r4, a4, e4, (xs, r5, el, wx, e5, (notes, r6, wn, e6, (parent, r7, wp, fp, e7, k))))),
  ),
) =
    let kind = name_kind u in (
      plain u sn f xs notes parent,
      r7,
      refl,
      (a1.0, a2, a3.0, rw el a4, wx, wn, wp),
      plain_fits role (chain_of_class (after_contents (after_fields (add m.table pending_entry) xs) notes) parent) kind f
          (codes_of xs) a1.1 a3.1 fp,
      rw (e1, e2, e3, e4, ← el, e5, e6, e7) refl,
      k,
    )

pub proxy_remains : (role : Role) (d : ℕ) (m : Moment) (K : Behind) (fs : List Piece) → ProxyFits role
    → RemainsInterfaceCount role d (next_number m) (assign m pending_entry) K fs → RemainsDesc proxy_desc_tag role d m K fs
proxy_remains role d m K fs pf (n, r1, a1, e1, (names, r2, el, wi, e2, (notes, r3, wn, e3, (parent, r4, wp, fp, e4, k)))) = (
  proxy names notes parent,
  r4,
  refl,
  (rw el a1, wi, wn, wp),
  proxy_fits role (chain_of_class (after_contents (add m.table pending_entry) notes) parent) pf fp,
  rw (e1, ← el, e2, e3, e4) refl,
  k,
)

-- The handle of a stream and its parts own what a box at the same types owns.
use mathlib.Core.Path.{◌≡◌, refl}
use mathlib.Core.Bool.{Bool, true, false, ◌&&◌}
use lib.Dec.{T}
use denote.Laws.{Typed}
use mir.Syntax.{Ty, impl, tnil, dnil}
use mathlib.Core.List.{List, [], ◌∷◌}
use seplogic.Ra.Ura.{Ura}
use types.Logic.{Logic}
use types.Kit.{Item, Goal, Step, step, ‵, ◌$◌, move, fjoin, fpack, feq_i}
use mir.Val.{Val, vstruct, vcons, vnil, has_ty, WT}
use denote.RawPtr.{Ptr, ptr_val}
use denote.RattleType.{RattleType, Valss}
use denote.Signature.{Slot, plain}
use denote.Steps.{nothing}
use denote.Struct.Struct.{within}
use denote.Struct.Owning.{fields, shape, to}
use Rattle.std.specs.Prelude.{Option, Some, None}
use Rattle.std_alloc.proofs.BoxSteps.Form.{Bx}
use Rattle.std_heap.specs.contracts.Global as Heap
use Rattle.std_heap.specs.contracts.GlobalAllocator.TheImpl.{ghosts, dict}
use Rattle.std_heap.proofs.Global.TheLaws as heap
use Rattle.jser_ffi.specs.StreamOwning.{held_owns}
use Rattle.jser_ffi.specs.Holding.{Holds}
use Rattle.jser_ffi.specs.contracts.stream.Stream as Home
use Rattle.jser_ffi.proofs.stream.Stream.TheLaws as home
use Rattle.jser_ffi.specs.contracts.parts.Parts as Parts
use Rattle.jser_ffi.specs.contracts.held_stream.HeldStream as Handle

abbrev pub E : Bx
E = record { row = Home.the_row; laws = home.the_row_laws; al = record { row = Heap.the_row; laws = heap.the_row_laws; g = ghosts; d = dict; drops = impl [] tnil dnil } }

abbrev pub Z : RattleType
Z = Heap.the_row

abbrev pub FromParts : Slot 0
FromParts = plain (λ _. Parts.the_row Home.the_row Heap.the_row ghosts)

abbrev pub FromHandle : Slot 0
FromHandle = plain (λ _. Handle.the_row)

-- the handle of these parts
abbrev pub handle : Ptr → Z.Denot → Option Home.the_row.Denot → Handle.the_row.Denot
handle at alloc held = record { at = at; alloc = alloc; held = held }

-- what a handle holds that holds something
pub record Held (held : Option Home.the_row.Denot) : Type 0 where
  pub value : Home.the_row.Denot
  pub is : held ≡ Some value

pub held_by : (held : Option Home.the_row.Denot) → Holds held → Held held
held_by None t = absurd t
held_by (Some x) t = record { value = x; is = refl }

-- the one machine value of a list of one
pub one : (τ : Ty) (vs : List Val) → Typed (τ ∷ []) vs → (v : Val) × (vs ≡ v ∷ []) × (T (has_ty τ v) × WT v)
one τ [] t = absurd t
one τ (v ∷ []) t = (v, refl, t.0)
one τ (v ∷ w ∷ vs) t = absurd t.1

pub both_tt : (x y : Bool) → T x → T y → T (x && (y && true))
both_tt true true s t = tt
both_tt true false s t = absurd t
both_tt false y s t = absurd s

abbrev pub pair : Val → Val → Val
pair v w = vstruct (vcons v (vcons w vnil))

module _ {M : Type 1} {𝓤 : Ura M} {𝓛 : Logic 𝓤} {K : Type 0} {Γ : List (Item 𝓤)} {G : Goal 𝓤 𝓛.H} where
  -- a handle is made of its fields and of what it owns
  pub handle_in : K → (at : Ptr) (alloc : Z.Denot) (held : Option Home.the_row.Denot) (h : Val)
      → Step K 𝓛 (‵ (Handle.the_row.own_val (handle at alloc held) (pair (ptr_val at) h ∷ [])) ∷ Γ) G (‵ (held_owns alloc at held) ∷ ‵ (Z.own_val alloc (h ∷ [])) ∷ Γ) G
  handle_in t at alloc held h = step (λ s. let v : Val = pair (ptr_val at) h in
      nothing t $ move t (2 ∷ 0 ∷ []) $ fjoin t $ feq_i t (List Val) (ptr_val at ∷ []) (ptr_val at ∷ []) refl $ fjoin t $ feq_i t (List Val) (v ∷ []) (v ∷ []) refl $ fjoin t $
      fpack t (Valss (fields Handle.the_type)) (within (shape Handle.the_type) (to Handle.the_type (handle at alloc held)) (v ∷ [])) (ptr_val at ∷ [], (h ∷ [], tt)) $ fjoin t $ s)

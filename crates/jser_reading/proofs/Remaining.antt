-- What a stack of goals still asks for: the tokens of well-formed trees, one for each goal. `K` says what comes
-- behind. These are no definitions of the format: they state the way from the machine back to trees.
use Rattle.std.proofs.Common.{◌≡◌, ℕ, zero, suc, ◌^◌, ◌<◌, Bool, false, List, [], ◌∷◌, ◌++◌, length, refl, Option}
use Rattle.jser_reading.proofs.Vocabulary.{other_entry, pending_entry, chain_at, NameKind, name_kind, layer_kind, Layer, PrimCode, TextPlaceTree, FieldTree, PrimTree, ValueTree, DescTree, ClassPlaceTree, ContentTrees, codes_of, proxy_layer, chain_of_class, chain_of_desc, IsText, IsClassName, AreClassNames, IsFlags, IsBack, IsBackToText, IsBackToClass, WellFormedText, WellFormedFields, ArePrimsOf, IsBytes, IsBlock, elements_of, is_external, WellFormedValue, WellFormedDesc, WellFormedClass, WellFormedSuperclass, WellFormedNotes, WellFormedContents, Owner, object_owner, array_owner, enum_owner, class_owner, ChainOwner, Role, superclass, owner_of, is_strict_above, FitsOwner, FitsRole, NameFits, FlagsFit, Moment, tick, assign, closing, next_number, past_text, past_fields, past_value, past_desc, past_class, past_contents, Tag, header_token, tag_token, handle_token, suid_token, flags_token, field_count_token, interface_count_token, array_length_token, text_token, block_length_token, prims_token, bytes_token, header_at, value_at, back_handle_at, text_handle_at, class_handle_at, superclass_handle_at, string_at, class_name_at, field_name_at, suid_at, field_count_at, interface_count_at, array_length_at, flags_at, block_length_at, raw_at, bytes_at, Piece, at, tag_of_desc, tag_of, cut_text_place, cut_fields, cut_interfaces, cut_bytes, cut_value, cut_desc, cut_class, cut_superclass, cut_annotation, cut_top, Part, raw_part, value_part, annotation_part, Goal, header_goal, top_goal, annotation_goal, back_handle_goal, text_place_goal, text_handle_goal, field_name_goal, string_goal, block_length_goal, block_goal, array_length_goal, parts_goal, class_goal, class_handle_goal, made_goal, superclass_goal, superclass_handle_goal, close_goal, class_name_goal, suid_goal, flags_goal, field_count_goal, fields_goal, interface_count_goal, interfaces_goal, State, object_parts, body_parts, in_order, settle_parts, settle}
use Rattle.jser_reading.proofs.TreeToMachine.{past_top}

abbrev pub Behind : Type 1
Behind = Moment → List Piece → Type 0

abbrev pub RemainsAnnotation : ℕ → Moment → Behind → List Piece → Type 0
RemainsAnnotation d m K fs =
    (cs : ContentTrees) × (r : List Piece) × WellFormedNotes m.table cs × (fs ≡ cut_annotation d m cs r)
    × K (past_contents m cs) r

abbrev pub RemainsParts : ℕ → List Part → Moment → Behind → List Piece → Type 0
RemainsParts d [] m K fs = K m fs
RemainsParts d (raw_part c zero ∷ parts) m K fs = RemainsParts d parts m K fs
RemainsParts d (raw_part c (suc n) ∷ parts) m K fs =
    (ps : List PrimTree) × (r : List Piece) × ((length ps ≡ suc n) × ArePrimsOf c ps)
    × (fs ≡ at (raw_at c (suc n)) d m (prims_token ps) ∷ r) × RemainsParts d parts m K r
RemainsParts d (value_part ∷ parts) m K fs =
    (v : ValueTree) × (r : List Piece) × WellFormedValue m.table v
    × (fs ≡ at value_at (suc d) m (tag_token (tag_of v)) ∷ cut_value (suc d) m v r)
    × RemainsParts d parts (past_value m v) K r
RemainsParts d (annotation_part ∷ parts) m K fs = RemainsAnnotation d m (λ m' r'. RemainsParts d parts m' K r') fs

abbrev pub RemainsText : ℕ → Moment → Behind → List Piece → Type 0
RemainsText d m K fs =
    (t : TextPlaceTree) × (r : List Piece) × WellFormedText m.table t × (fs ≡ cut_text_place d m t r) × K (past_text m t) r

abbrev pub RemainsBody : Option PrimCode → ℕ → Moment → Behind → List Piece → Type 0
RemainsBody elements d m K fs =
    (n : ℕ) × (r : List Piece) × (n < 2 ^ 31) × (fs ≡ at array_length_at d m (array_length_token n) ∷ r)
    × RemainsParts d (body_parts elements n) m K r

abbrev pub RemainsOwner : Owner → ℕ → List Layer → Moment → Behind → List Piece → Type 0
RemainsOwner object_owner d chain m K fs = RemainsParts d (object_parts (is_external chain) chain) m K fs
RemainsOwner array_owner d chain m K fs = RemainsBody (elements_of chain) d m K fs
RemainsOwner enum_owner d chain m K fs = RemainsText d m K fs
RemainsOwner class_owner d chain m K fs = K m fs

abbrev pub RemainsTop : Moment → Behind → List Piece → Type 0
RemainsTop m K fs =
    (cs : ContentTrees) × (r : List Piece) × WellFormedContents m.table cs × (fs ≡ cut_top m cs r) × K (past_top m cs) r

abbrev pub RemainsBytes : ℕ → ℕ → Moment → Behind → List Piece → Type 0
RemainsBytes d zero m K fs = K m fs
RemainsBytes d (suc n) m K fs =
    (bytes : List ℕ) × (r : List Piece) × (IsBytes bytes × (length bytes ≡ suc n))
    × (fs ≡ at (bytes_at (suc n)) d m (bytes_token bytes) ∷ r) × K m r

abbrev pub RemainsBlock : Bool → ℕ → Moment → Behind → List Piece → Type 0
RemainsBlock long d m K fs =
    (bytes : List ℕ) × (r : List Piece) × IsBlock long bytes
    × (fs ≡ at (block_length_at long) d m (block_length_token long (length bytes)) ∷ cut_bytes d m bytes r) × K m r

abbrev pub RemainsString : Bool → ℕ → Moment → Behind → List Piece → Type 0
RemainsString long d m K fs =
    (units : List ℕ) × (r : List Piece) × IsText long units × (fs ≡ at (string_at long) d m (text_token long units) ∷ r) × K m r

abbrev pub RemainsSuperclass : ChainOwner → Bool → ℕ → ℕ → Layer → Moment → Behind → List Piece → Type 0
RemainsSuperclass owner strict d number layer m K fs =
    (c : ClassPlaceTree) × (r : List Piece) × WellFormedSuperclass m.table c
    × FitsRole (superclass owner strict) (chain_of_class m.table c)
    × (fs ≡ cut_superclass owner strict d m c r)
    × K (closing (past_class (tick m) c) number (chain_of_class m.table c ++ (layer ∷ []))) r

abbrev pub RemainsEnding : Role → ℕ → ℕ → ℕ → Layer → Moment → Behind → List Piece → Type 0
RemainsEnding role d number flags layer m K fs =
    RemainsAnnotation d m
    (λ m' r'. RemainsSuperclass (owner_of role) (is_strict_above role flags) (suc d) number layer m' K r') fs

abbrev pub RemainsFields : Role → ℕ → ℕ → NameKind → ℕ → Bool → List ℕ → ℕ → Moment → Behind → List Piece → Type 0
RemainsFields role d number kind flags seen codes n m K fs =
    (xs : List FieldTree) × (r : List Piece) × (length xs ≡ n) × WellFormedFields m.table seen xs
    × (fs ≡ cut_fields d seen m xs r)
    × RemainsEnding role d number flags (record { kind = layer_kind kind; flags = flags; codes = in_order codes (codes_of xs) })
    (past_fields m xs) K r

abbrev pub RemainsFieldCount : Role → ℕ → ℕ → NameKind → ℕ → Moment → Behind → List Piece → Type 0
RemainsFieldCount role d number kind flags m K fs =
    (n : ℕ) × (r : List Piece) × (n < 2 ^ 15) × (fs ≡ at field_count_at d m (field_count_token n) ∷ r)
    × RemainsFields role d number kind flags false [] n m K r

abbrev pub RemainsFlags : Role → ℕ → ℕ → NameKind → Moment → Behind → List Piece → Type 0
RemainsFlags role d number kind m K fs =
    (f : ℕ) × (r : List Piece) × (IsFlags f × FlagsFit role f) × (fs ≡ at (flags_at role) d m (flags_token f) ∷ r)
    × RemainsFieldCount role d number kind f m K r

abbrev pub RemainsSuid : Role → ℕ → NameKind → Moment → Behind → List Piece → Type 0
RemainsSuid role d kind m K fs =
    (n : ℕ) × (r : List Piece) × (n < 2 ^ 64) × (fs ≡ at suid_at d m (suid_token n) ∷ r)
    × RemainsFlags role d (next_number m) kind (assign m pending_entry) K r

abbrev pub RemainsName : Role → ℕ → Moment → Behind → List Piece → Type 0
RemainsName role d m K fs =
    (units : List ℕ) × (r : List Piece) × (IsClassName units × NameFits role (name_kind units))
    × (fs ≡ at (class_name_at role) d m (text_token false units) ∷ r)
    × RemainsSuid role d (name_kind units) m K r

abbrev pub RemainsInterfaces : Role → ℕ → ℕ → ℕ → Moment → Behind → List Piece → Type 0
RemainsInterfaces role d number n m K fs =
    (names : List (List ℕ)) × (r : List Piece) × (length names ≡ n) × AreClassNames names × (fs ≡ cut_interfaces d m names r)
    × RemainsEnding role d number 0 proxy_layer m K r

abbrev pub RemainsInterfaceCount : Role → ℕ → ℕ → Moment → Behind → List Piece → Type 0
RemainsInterfaceCount role d number m K fs =
    (n : ℕ) × (r : List Piece) × (n < 2 ^ 31) × (fs ≡ at interface_count_at d m (interface_count_token n) ∷ r)
    × RemainsInterfaces role d number n m K r

-- a whole descriptor with this tag
abbrev pub RemainsDesc : Tag → Role → ℕ → Moment → Behind → List Piece → Type 0
RemainsDesc tag role d m K fs =
    (x : DescTree) × (r : List Piece) × (tag_of_desc x ≡ tag) × WellFormedDesc m.table x × FitsRole role (chain_of_desc m.table x)
    × (fs ≡ cut_desc role d m x r) × K (past_desc m x) r

-- one goal
abbrev pub RemainsAt : Goal → Moment → Behind → List Piece → Type 0
RemainsAt header_goal m K fs = (r : List Piece) × (fs ≡ at header_at 0 m header_token ∷ r) × K m r
RemainsAt top_goal m K fs = RemainsTop m K fs
RemainsAt (annotation_goal d) m K fs = RemainsAnnotation d m K fs
RemainsAt (back_handle_goal d) m K fs =
    (n : ℕ) × (r : List Piece) × IsBack m.table n × (fs ≡ at back_handle_at d m (handle_token n) ∷ r) × K m r
RemainsAt (text_place_goal d) m K fs = RemainsText d m K fs
RemainsAt (text_handle_goal d) m K fs =
    (n : ℕ) × (r : List Piece) × IsBackToText m.table n × (fs ≡ at text_handle_at d m (handle_token n) ∷ r) × K m r
RemainsAt (field_name_goal d) m K fs =
    (units : List ℕ) × (r : List Piece) × IsText false units × (fs ≡ at field_name_at d m (text_token false units) ∷ r) × K m r
RemainsAt (string_goal long d) m K fs = RemainsString long d m K fs
RemainsAt (block_length_goal long d) m K fs = RemainsBlock long d m K fs
RemainsAt (block_goal d n) m K fs = RemainsBytes d n m K fs
RemainsAt (array_length_goal elements d) m K fs = RemainsBody elements d m K fs
RemainsAt (parts_goal d parts) m K fs = RemainsParts d parts m K fs
RemainsAt (class_goal owner d) m K fs =
    (c : ClassPlaceTree) × (r : List Piece) × WellFormedClass m.table c × FitsOwner owner (chain_of_class m.table c)
    × (fs ≡ cut_class owner d m c r)
    × RemainsOwner owner d (chain_of_class m.table c) (assign (past_class m c) other_entry) K r
RemainsAt (class_handle_goal owner d) m K fs =
    (n : ℕ) × (r : List Piece) × (IsBackToClass m.table n × FitsOwner owner (chain_at m.table n))
    × (fs ≡ at (class_handle_at owner) d m (handle_token n) ∷ r)
    × RemainsOwner owner d (chain_at m.table n) (assign m other_entry) K r
RemainsAt (made_goal owner d number) m K fs = RemainsOwner owner d (chain_at m.table number) (assign m other_entry) K fs
RemainsAt (superclass_goal owner strict d number layer) m K fs = RemainsSuperclass owner strict d number layer m K fs
RemainsAt (superclass_handle_goal owner strict d number layer) m K fs =
    (n : ℕ) × (r : List Piece) × (IsBackToClass m.table n × FitsRole (superclass owner strict) (chain_at m.table n))
    × (fs ≡ at (superclass_handle_at owner strict) d m (handle_token n) ∷ r)
    × K (closing m number (chain_at m.table n ++ (layer ∷ []))) r
RemainsAt (close_goal number parent layer) m K fs = K (closing m number (chain_at m.table parent ++ (layer ∷ []))) fs
RemainsAt (class_name_goal role d) m K fs = RemainsName role d m K fs
RemainsAt (suid_goal role d kind) m K fs = RemainsSuid role d kind m K fs
RemainsAt (flags_goal role d number kind) m K fs = RemainsFlags role d number kind m K fs
RemainsAt (field_count_goal role d number kind flags) m K fs = RemainsFieldCount role d number kind flags m K fs
RemainsAt (fields_goal role d number kind flags seen codes n) m K fs = RemainsFields role d number kind flags seen codes n m K fs
RemainsAt (interface_count_goal role d number) m K fs = RemainsInterfaceCount role d number m K fs
RemainsAt (interfaces_goal role d number n) m K fs = RemainsInterfaces role d number n m K fs

abbrev pub Remains : List Goal → Moment → List Piece → Type 0
Remains [] m fs = fs ≡ []
Remains (g ∷ gs) m fs = RemainsAt g m (Remains gs) fs

abbrev pub RemainsOf : State → List Piece → Type 0
RemainsOf (m, gs) fs = Remains gs m fs

-- Back over the goals that take no token.

unparts : (parts : List Part) (d : ℕ) (m : Moment) (gs : List Goal) (fs : List Piece)
    → (RemainsOf (settle m gs) fs → Remains gs m fs) → RemainsOf (settle_parts d parts m gs (settle m gs)) fs
    → RemainsParts d parts m (Remains gs) fs
unparts [] d m gs fs u h = u h
unparts (raw_part c zero ∷ parts) d m gs fs u h = unparts parts d m gs fs u h
unparts (raw_part c (suc n) ∷ parts) d m gs fs u h = h
unparts (value_part ∷ parts) d m gs fs u h = h
unparts (annotation_part ∷ parts) d m gs fs u h = h

pub unsettle : (gs : List Goal) (m : Moment) (fs : List Piece) → RemainsOf (settle m gs) fs → Remains gs m fs
unsettle [] m fs h = h
unsettle (block_goal d zero ∷ gs) m fs h = unsettle gs m fs h
unsettle (block_goal d (suc n) ∷ gs) m fs h = h
unsettle (parts_goal d parts ∷ gs) m fs h = unparts parts d m gs fs (λ k. unsettle gs m fs k) h
unsettle (made_goal object_owner d number ∷ gs) m fs h =
    unparts (object_parts (is_external (chain_at m.table number)) (chain_at m.table number)) d (assign m other_entry) gs fs
    (λ k. unsettle gs (assign m other_entry) fs k) h
unsettle (made_goal array_owner d number ∷ gs) m fs h = h
unsettle (made_goal enum_owner d number ∷ gs) m fs h = h
unsettle (made_goal class_owner d number ∷ gs) m fs h = unsettle gs (assign m other_entry) fs h
unsettle (close_goal number parent l ∷ gs) m fs h = unsettle gs (closing m number (chain_at m.table parent ++ (l ∷ []))) fs h
unsettle (fields_goal role d number kind flags seen codes zero ∷ gs) m fs h = ([], fs, refl, tt, refl, h)
unsettle (fields_goal role d number kind flags seen codes (suc n) ∷ gs) m fs h = h
unsettle (interfaces_goal role d number zero ∷ gs) m fs h = ([], fs, refl, tt, refl, h)
unsettle (interfaces_goal role d number (suc n) ∷ gs) m fs h = h
unsettle (g ∷ gs) m fs h = h

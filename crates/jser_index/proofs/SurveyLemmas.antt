-- A first walk goes past one token.
use denote.Bor.{Bor}
use Rattle.std.proofs.Common.{◌≡◌, ℕ, ◌<◌, ◌≤◌, Bool, true, false, if◌then◌else◌, nat_lt, List, [], ◌∷◌, ◌++◌, length, map, reverse, slice_set, Option, Some, None, option_map, refl, sym, ◌∙◌, ap, ap₂}
use Rattle.std.proofs.lemmas.Bool.{le-ltb, lt-ltb}
use Rattle.std.proofs.lemmas.List.{map_push, reverse-append}
use Rattle.jser_reading.specs.TokenBytes.{bytes_of}
use Rattle.jser_reading.specs.Labels.{Tag, StreamToken, tag_token, reset_tag_token, handle_token, interface_count_token, array_length_token, code_token, text_token, prims_token, bytes_token}
use Rattle.jser_shown.specs.Nodes.{place_after}
use Rattle.jser_shown.specs.Nodes.{text_node, array_node}
use Rattle.jser_shown.specs.Nodes.{NodeKind as ToldKind}
use Rattle.jser_shown.specs.Owners.{owner_node}
use Rattle.jser_shown.specs.Finding.{Finding, is_owner_kind, units_made, elements_made, node_made, make_begun, begin_kind, kind_begun, begun_by, take_token, take_name, moved, find}
use Rattle.jser_shown.specs.Finding.{Begun as ToldBegun}
use Rattle.jser_index.specs.declared.begun.Begun.{Begun}
use Rattle.jser_index.specs.declared.node.NodeKind.{NodeKind}
use Rattle.jser_index.specs.StoredNodes.{view_kind}
use Rattle.jser_printer.specs.declared.Token.TheVariants as lent
use Rattle.jser_printer.specs.Given.{IsOf}
use Rattle.jser_index.specs.Surveying.{view_begun, IsPlain, IsQuiet}

-- ---- the tags whose nodes are not made yet

begun_last : (items : List Begun) (b : Begun) → reverse (map view_begun (items ++ (b ∷ []))) ≡ view_begun b ∷ reverse (map view_begun items)
begun_last items b = ap reverse (map_push view_begun items b) ∙ reverse-append (map view_begun items) (view_begun b ∷ [])

-- there is none

pub begun_none : (token : StreamToken) (items : List Begun) (now : Finding) → items ≡ [] → now.begun ≡ reverse (map view_begun items)
    → now ≡ make_begun token now.begun now
begun_none token items now none is = sym (ap (λ b. make_begun token b now) (is ∙ ap (λ xs. reverse (map view_begun xs)) none))

-- the last one is made

pub made_owner : (token : StreamToken) (items popped : List Begun) (b : Begun) (number elements : ℕ) (now new : Finding) → items ≡ popped ++ (b ∷ [])
    → now.begun ≡ reverse (map view_begun items) → is_owner_kind (view_kind b.kind) ≡ true → number ≡ length now.nodes
    → elements ≡ elements_made (view_kind b.kind) token
    → new ≡ record now {
      begun = reverse (map view_begun popped);
      nodes = now.nodes ++ (node_made (view_begun b) token ∷ []);
      owners = slice_set now.owners b.position (owner_node number elements);
    }
    → new ≡ make_begun token now.begun now
made_owner token items popped b number elements now new e begun owner n k is =
    is ∙ sym (ap (λ bs. make_begun token bs now) (begun ∙ ap (λ xs. reverse (map view_begun xs)) e ∙ begun_last popped b)
    ∙ ap (λ o. record now { begun = reverse (map view_begun popped); nodes = now.nodes ++ (node_made (view_begun b) token ∷ []); owners = o })
    (ap (λ t. if t then slice_set now.owners b.position (owner_node (length now.nodes) (elements_made (view_kind b.kind) token)) else now.owners) owner
    ∙ ap₂ (λ x y. slice_set now.owners b.position (owner_node x y)) (sym n) (sym k)))

pub made_other : (token : StreamToken) (items popped : List Begun) (b : Begun) (now new : Finding) → items ≡ popped ++ (b ∷ [])
    → now.begun ≡ reverse (map view_begun items) → is_owner_kind (view_kind b.kind) ≡ false
    → new ≡ record now { begun = reverse (map view_begun popped); nodes = now.nodes ++ (node_made (view_begun b) token ∷ []) }
    → new ≡ make_begun token now.begun now
made_other token items popped b now new e begun other is =
    is ∙ sym (ap (λ bs. make_begun token bs now) (begun ∙ ap (λ xs. reverse (map view_begun xs)) e ∙ begun_last popped b)
    ∙ ap (λ t. record now {
      begun = reverse (map view_begun popped);
      nodes = now.nodes ++ (node_made (view_begun b) token ∷ []);
      owners = if t then slice_set now.owners b.position (owner_node (length now.nodes) (elements_made (view_kind b.kind) token)) else now.owners;
    }) other)

-- at a token of which it gets nothing

no_units : (kind : ToldKind) (token : StreamToken) → IsPlain token → units_made kind token ≡ None
no_units text_node (text_token long units) plain = absurd plain
no_units text_node _ plain = refl
no_units _ token plain = refl

no_elements : (kind : ToldKind) (token : StreamToken) → IsPlain token → elements_made kind token ≡ 0
no_elements array_node (array_length_token n) plain = absurd plain
no_elements array_node _ plain = refl
no_elements _ token plain = refl

no_length : (kind : ToldKind) → elements_made kind (array_length_token 0) ≡ 0
no_length array_node = refl
no_length _ = refl

length_units : (kind : ToldKind) → units_made kind (array_length_token 0) ≡ None
length_units text_node = refl
length_units _ = refl

plain_begun : (token : StreamToken) (begun : List ToldBegun) (now : Finding) → IsPlain token
    → make_begun (array_length_token 0) begun now ≡ make_begun token begun now
plain_begun token [] now plain = refl
plain_begun token (b ∷ begun) now plain =
    ap₂ (λ u n. record now {
      begun = begun;
      nodes = now.nodes ++ (record { kind = b.kind; place = b.place; units = u } ∷ []);
      owners = if is_owner_kind b.kind then slice_set now.owners b.position (owner_node (length now.nodes) n) else now.owners;
    })
    (length_units b.kind ∙ sym (no_units b.kind token plain)) (no_length b.kind ∙ sym (no_elements b.kind token plain))

pub made_plain : (told : StreamToken) (now new : Finding) → IsPlain told
    → ((other : StreamToken) → IsOf (lent.ArrayLength 0) other → new ≡ make_begun other now.begun now) → new ≡ make_begun told now.begun now
made_plain told now new plain made = made (array_length_token 0) refl ∙ plain_begun told now.begun now plain

-- ---- a tag

pub begins_none : (told : Tag) (kind : Option NodeKind) (now : Finding) → option_map view_kind kind ≡ kind_begun told → kind ≡ None
    → record now { is_name = true } ≡ begun_by told now
begins_none told kind now is none = ap (λ k. record (begin_kind k now) { is_name = true }) (ap (option_map view_kind) (sym none) ∙ is)

begins_some : (told : Tag) (kind : Option NodeKind) (k : NodeKind) (now : Finding) (items : List Begun) → option_map view_kind kind ≡ kind_begun told → kind ≡ Some k
    → now.begun ≡ reverse (map view_begun items)
    → begun_by told now ≡ record now {
      begun = reverse (map view_begun (items ++ (record { kind = k; tag_byte = now.place; position = length now.owners } ∷ [])));
      owners = if is_owner_kind (view_kind k) then now.owners ++ (owner_node 0 0 ∷ []) else now.owners;
      is_name = true;
    }
begins_some told kind k now items is some begun =
    let b : Begun = record { kind = k; tag_byte = now.place; position = length now.owners } in
    ap (λ o. record (begin_kind o now) { is_name = true }) (sym is ∙ ap (option_map view_kind) some)
    ∙ ap (λ bs. record now { begun = bs; owners = if is_owner_kind (view_kind k) then now.owners ++ (owner_node 0 0 ∷ []) else now.owners; is_name = true })
    (ap (λ bs. view_begun b ∷ bs) begun ∙ sym (begun_last items b))

pub begins_owner : (told : Tag) (kind : Option NodeKind) (k : NodeKind) (position : ℕ) (now : Finding) (items : List Begun)
    → option_map view_kind kind ≡ kind_begun told → kind ≡ Some k → now.begun ≡ reverse (map view_begun items) → is_owner_kind (view_kind k) ≡ true
    → position ≡ length now.owners
    → record now {
      begun = reverse (map view_begun (items ++ (record { kind = k; tag_byte = now.place; position = position } ∷ [])));
      owners = now.owners ++ (owner_node 0 0 ∷ []);
      is_name = true;
    } ≡ begun_by told now
begins_owner told kind k position now items is some begun owner p =
    sym (begins_some told kind k now items is some begun
    ∙ ap₂ (λ n t. record now {
      begun = reverse (map view_begun (items ++ (record { kind = k; tag_byte = now.place; position = n } ∷ [])));
      owners = if t then now.owners ++ (owner_node 0 0 ∷ []) else now.owners;
      is_name = true;
    }) (sym p) owner)

pub begins_other : (told : Tag) (kind : Option NodeKind) (k : NodeKind) (position : ℕ) (now : Finding) (items : List Begun)
    → option_map view_kind kind ≡ kind_begun told → kind ≡ Some k → now.begun ≡ reverse (map view_begun items) → is_owner_kind (view_kind k) ≡ false
    → position ≡ length now.owners
    → record now {
      begun = reverse (map view_begun (items ++ (record { kind = k; tag_byte = now.place; position = position } ∷ [])));
      is_name = true;
    } ≡ begun_by told now
begins_other told kind k position now items is some begun other p =
    sym (begins_some told kind k now items is some begun
    ∙ ap₂ (λ n t. record now {
      begun = reverse (map view_begun (items ++ (record { kind = k; tag_byte = now.place; position = n } ∷ [])));
      owners = if t then now.owners ++ (owner_node 0 0 ∷ []) else now.owners;
      is_name = true;
    }) (sym p) other)

-- ---- a token

-- the place is counted behind it alone

place_made : (token : StreamToken) (begun : List ToldBegun) (x : Finding) → (make_begun token begun x).place ≡ x.place
place_made token [] x = refl
place_made token (b ∷ begun) x = refl

place_named : (b : Bool) (units : List ℕ) (x : Finding) → (if b then record x { names = x.names ++ (units ∷ []) } else x).place ≡ x.place
place_named true units x = refl
place_named false units x = refl

place_of_name : (token : StreamToken) (x : Finding) → (take_name false token x).place ≡ x.place
place_of_name (text_token long units) x = place_named x.is_name units x
place_of_name _ x = refl

place_begun : (kind : Option ToldKind) (x : Finding) → (begin_kind kind x).place ≡ x.place
place_begun None x = refl
place_begun (Some kind) x = refl

place_taken : (token : StreamToken) (x : Finding) → (take_token token x).place ≡ x.place
place_taken (tag_token tag) x = place_begun (kind_begun tag) x
place_taken reset_tag_token x = refl
place_taken (interface_count_token n) x = refl
place_taken (code_token n) x = refl
place_taken _ x = refl

found_by : (token : StreamToken) (assigned : ℕ) (now : Finding) (b : Bool) → nat_lt (length now.nodes) assigned ≡ b
    → find assigned token now ≡ moved (bytes_of token) (take_token token (take_name b token (if b then make_begun token now.begun now else now)))
found_by token assigned now b is =
    ap (λ t. moved (bytes_of token) (take_token token (take_name t token (if t then make_begun token now.begun now else now)))) is

ends_at : (token : StreamToken) (end : ℕ) (now before : Finding) → place_after now.place (bytes_of token) ≡ end → before.place ≡ now.place
    → record (take_token token before) { place = end } ≡ moved (bytes_of token) (take_token token before)
ends_at token end now before at same =
    ap (λ p. record (take_token token before) { place = p })
    (sym at ∙ ap (λ p. place_after p (bytes_of token)) (sym same ∙ sym (place_taken token before)))

-- before it this node was made, or none was

pub finds_made : (token : StreamToken) (assigned end : ℕ) (now made taken new : Finding) → length now.nodes < assigned → made ≡ make_begun token now.begun now
    → taken ≡ take_token token made → new ≡ record taken { place = end } → place_after now.place (bytes_of token) ≡ end → new ≡ find assigned token now
finds_made token assigned end now made taken new less is_made is_taken is at =
    is ∙ ap {A = Finding} (λ x. record x { place = end }) (is_taken ∙ ap (take_token token) is_made)
    ∙ ends_at token end now (make_begun token now.begun now) at (place_made token now.begun now)
    ∙ sym (found_by token assigned now true (lt-ltb (length now.nodes) assigned less))

pub finds_unmade : (token : StreamToken) (assigned end : ℕ) (now named taken new : Finding) → assigned ≤ length now.nodes → named ≡ take_name false token now
    → taken ≡ take_token token named → new ≡ record taken { place = end } → place_after now.place (bytes_of token) ≡ end → new ≡ find assigned token now
finds_unmade token assigned end now named taken new le is_named is_taken is at =
    is ∙ ap {A = Finding} (λ x. record x { place = end }) (is_taken ∙ ap (take_token token) is_named)
    ∙ ends_at token end now (take_name false token now) at (place_of_name token now)
    ∙ sym (found_by token assigned now false (le-ltb (length now.nodes) assigned le))

-- a tag is no text

pub tag_plain : (tag : ℕ) (told : StreamToken) → IsOf (lent.Tag tag) told → IsPlain told
tag_plain tag (text_token long units) is = absurd is
tag_plain tag (array_length_token n) is = absurd is
tag_plain tag _ is = tt

pub tag_no_name : (tag : ℕ) (told : StreamToken) (now : Finding) → IsOf (lent.Tag tag) told → now ≡ take_name false told now
tag_no_name tag (text_token long units) now is = absurd is
tag_no_name tag _ now is = refl

-- a token with which nothing begins

pub quiet_plain : (told : StreamToken) → IsQuiet told → IsPlain told
quiet_plain (handle_token n) quiet = tt
quiet_plain (prims_token ps) quiet = tt
quiet_plain (bytes_token bytes) quiet = tt
quiet_plain _ quiet = absurd quiet

pub handle_quiet : (handle : ℕ) (told : StreamToken) → IsOf (lent.Handle handle) told → IsQuiet told
handle_quiet handle (handle_token n) is = tt
handle_quiet handle _ is = absurd is

pub raw_quiet : (bytes : Bor (List ℕ)) (told : StreamToken) → IsOf (lent.Raw bytes) told → IsQuiet told
raw_quiet bytes (prims_token ps) is = tt
raw_quiet bytes (bytes_token told) is = tt
raw_quiet bytes _ is = absurd is

quiet_name : (told : StreamToken) (now : Finding) → IsQuiet told → now ≡ take_name false told now
quiet_name (handle_token n) now quiet = refl
quiet_name (prims_token ps) now quiet = refl
quiet_name (bytes_token bytes) now quiet = refl
quiet_name _ now quiet = absurd quiet

quiet_taken : (told : StreamToken) (now : Finding) → IsQuiet told → now ≡ take_token told now
quiet_taken (handle_token n) now quiet = refl
quiet_taken (prims_token ps) now quiet = refl
quiet_taken (bytes_token bytes) now quiet = refl
quiet_taken _ now quiet = absurd quiet

pub passes_made : (told : StreamToken) (assigned end : ℕ) (now made new : Finding) → IsQuiet told → length now.nodes < assigned
    → made ≡ make_begun told now.begun now → new ≡ record made { place = end } → place_after now.place (bytes_of told) ≡ end → new ≡ find assigned told now
passes_made told assigned end now made new quiet less is_made is at =
    finds_made told assigned end now made made new less is_made (quiet_taken told made quiet) is at

pub passes_unmade : (told : StreamToken) (assigned end : ℕ) (now new : Finding) → IsQuiet told → assigned ≤ length now.nodes
    → new ≡ record now { place = end } → place_after now.place (bytes_of told) ≡ end → new ≡ find assigned told now
passes_unmade told assigned end now new quiet le is at =
    finds_unmade told assigned end now now now new le (quiet_name told now quiet) (quiet_taken told now quiet) is at

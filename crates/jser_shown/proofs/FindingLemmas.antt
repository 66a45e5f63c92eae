-- One token after another, where a node stands for each handle that is assigned, and where that of the last tag does not
-- stand yet. A proof goes from the end: from what is found along the pieces after a part, to what is found along the part
-- and those pieces. In these proofs `A` is what is found in the end, `y` what is found before a part, with a node for each
-- handle, `x` the same where the last node may be missing, `k` what is known of the pieces after it.
use Rattle.std.proofs.Common.{◌≡◌, ℕ, suc, ◌<◌, Bool, true, false, if◌then◌else◌, nat_lt, List, [], ◌∷◌, ◌++◌, length, slice_set, Option, None, refl, sym, ap, subst, ◌∙◌, arith}
use Rattle.std.proofs.lemmas.Bool.{lt-ltb, le-ltb}
use Rattle.jser_grammar.proofs.TableLemmas.{length-add, length-close}
use Rattle.jser_reading.proofs.Vocabulary.{Layer, TableEntry, Entries, add, close, Moment, StreamToken, header_token, Position, Piece, at}
use Rattle.jser_reading.specs.TokenBytes.{bytes_of}
use Rattle.jser_shown.specs.Nodes.{Node, Nodes, with_node}
use Rattle.jser_shown.specs.Owners.{OwnerNode, owner_node}
use Rattle.jser_shown.specs.Finding.{Begun, Finding, is_owner_kind, units_made, elements_made, make_begun, made_by, take_token, take_name, moved, found, finished, nodes_found}

-- what is found in the end
pub record Findings : Type 0 where
  pub nodes : List Nodes
  pub owners : List OwnerNode
  pub names : List (List ℕ)

abbrev pub findings_of : Finding → Findings
findings_of x = record { nodes = nodes_found x; owners = x.owners; names = x.names }

abbrev pub findings : Finding → Findings
findings x = findings_of (finished x)

-- with this word on the next text
abbrev pub named : Bool → Finding → Finding
named is_name x = record x { is_name = is_name }

-- From x, where n handles are assigned, the next token makes the node of the last tag, if it does not stand yet, and has
-- y before it. There a node stands for each handle.
pub record Near (n : ℕ) (x y : Finding) : Type 0 where
  pub made : (token : StreamToken) → made_by n token x ≡ y
  pub exact : length y.nodes ≡ n

-- along these pieces from y, where a node stands for each handle, this is found in the end
abbrev pub Goes : Entries → Finding → List Piece → Findings → Type 0
Goes E y pieces A = length y.nodes ≡ length E → findings (found y pieces) ≡ A

-- and so from wherever the next token has y before it, whatever y says of the next text
abbrev pub Leads : Entries → Finding → List Piece → Findings → Type 0
Leads E y pieces A = (i : Bool) (x : Finding) → Near (length E) x (named i y) → findings (found x pieces) ≡ A

-- numbers

not_below : (n k : ℕ) → n ≡ k → nat_lt n k ≡ false
not_below n k e = le-ltb n k (omega arith)

pub below_added : (n : ℕ) (E : Entries) (entry : TableEntry) → n ≡ length E → n < length (add E entry)
below_added n E entry e = omega (arith, length-add E entry)

one_more : (N : Nodes) (node : Node) → length (N ++ (node ∷ [])) ≡ suc (length N)
one_more [] node = refl
one_more (x ∷ N) node = ap (λ n. suc n) (one_more N node)

pub both_added : (N : Nodes) (node : Node) (E : Entries) (entry : TableEntry) → length N ≡ length E → length (N ++ (node ∷ [])) ≡ length (add E entry)
both_added N node E entry e = one_more N node ∙ (ap (λ n. suc n) e ∙ sym (length-add E entry))

-- where a node stands for each handle, nothing is made

pub near_self : (y : Finding) (n : ℕ) → length y.nodes ≡ n → Near n y y
near_self y n e = record {
  made = λ token. ap (λ b. if b then make_begun token y.begun y else y) (not_below (length y.nodes) n e);
  exact = e;
}

-- a token

abbrev find_by : Bool → StreamToken → Finding → Finding
find_by late token x = moved (bytes_of token) (take_token token (take_name late token (if late then make_begun token x.begun x else x)))

no_name : (late : Bool) (token : StreamToken) (x : Finding) → ((z : Finding) → take_name false token z ≡ z) → take_name late token x ≡ x
no_name true token x same = refl
no_name false token x same = same x

-- one that is no text
pub step : (position : Position) (d : ℕ) (m : Moment) (token : StreamToken) (x y : Finding) (rest : List Piece) (A : Findings)
    → Near (length m.table) x y → ((z : Finding) → take_name false token z ≡ z)
    → findings (found (moved (bytes_of token) (take_token token y)) rest) ≡ A
    → findings (found x (at position d m token ∷ rest)) ≡ A
step position d m token x y rest A near same k =
    ap (λ z. findings (found (moved (bytes_of token) (take_token token z)) rest))
    (no_name (nat_lt (length x.nodes) (length m.table)) token (made_by (length m.table) token x) same ∙ near.made token)
    ∙ k

-- any one, where a node stands for each handle
pub step_exact : (position : Position) (d : ℕ) (m : Moment) (token : StreamToken) (y : Finding) (rest : List Piece) (A : Findings)
    → length y.nodes ≡ length m.table
    → findings (found (moved (bytes_of token) (take_token token (take_name false token y))) rest) ≡ A
    → findings (found y (at position d m token ∷ rest)) ≡ A
step_exact position d m token y rest A e k =
    ap (λ late. findings (found (find_by late token y) rest)) (not_below (length y.nodes) (length m.table) e) ∙ k

-- any one, where the last handle has no node yet
pub step_late : (position : Position) (d : ℕ) (m : Moment) (token : StreamToken) (y : Finding) (rest : List Piece) (A : Findings)
    → length y.nodes < length m.table
    → findings (found (moved (bytes_of token) (take_token token (make_begun token y.begun y))) rest) ≡ A
    → findings (found y (at position d m token ∷ rest)) ≡ A
step_late position d m token y rest A below k =
    ap (λ late. findings (found (find_by late token y) rest)) (lt-ltb (length y.nodes) (length m.table) below) ∙ k

-- the node of an owner that is no array is made alike at each token

abbrev pub made_owner : Begun → List Begun → Finding → Finding
made_owner b begun x =
    record x {
      begun = begun;
      nodes = with_node x.nodes b.kind b.place;
      owners = slice_set x.owners b.position (owner_node (length x.nodes) 0);
    }

abbrev made_with : Begun → List Begun → Finding → Bool → Option (List ℕ) → ℕ → Finding
made_with b begun x is_owner units elements =
    record x {
      begun = begun;
      nodes = x.nodes ++ (record { kind = b.kind; place = b.place; units = units } ∷ []);
      owners = if is_owner then slice_set x.owners b.position (owner_node (length x.nodes) elements) else x.owners;
    }

made_alike : (b : Begun) (begun : List Begun) (x : Finding) (token : StreamToken)
    → is_owner_kind b.kind ≡ true → units_made b.kind token ≡ None → elements_made b.kind token ≡ 0
    → make_begun token (b ∷ begun) x ≡ made_owner b begun x
made_alike b begun x token owner units elements =
    ap (λ is_owner. made_with b begun x is_owner (units_made b.kind token) (elements_made b.kind token)) owner
    ∙ (ap (λ u. made_with b begun x true u (elements_made b.kind token)) units
    ∙ ap (λ n. made_with b begun x true None n) elements)

pub late_owner : (E : Entries) (entry : TableEntry) (b : Begun) (begun : List Begun) (x : Finding) (rest : List Piece) (A : Findings)
    → is_owner_kind b.kind ≡ true → ((token : StreamToken) → units_made b.kind token ≡ None) → ((token : StreamToken) → elements_made b.kind token ≡ 0)
    → length x.nodes ≡ length E → Leads (add E entry) (made_owner b begun x) rest A
    → findings (found (record x { begun = b ∷ begun }) rest) ≡ A
late_owner E entry b begun x rest A owner units elements e k =
    let late : Finding = record x { begun = b ∷ begun } in
    k x.is_name late (record {
      made = λ token.
          ap (λ is_late. if is_late then make_begun token (b ∷ begun) late else late)
          (lt-ltb (length x.nodes) (length (add E entry)) (below_added (length x.nodes) E entry e))
          ∙ made_alike b begun late token owner (units token) (elements token);
      exact = both_added x.nodes (record { kind = b.kind; place = b.place; units = None }) E entry e;
    })

-- at the end

last_made : (late : Bool) (x y : Finding) → ((token : StreamToken) → (if late then make_begun token x.begun x else x) ≡ y) → y.begun ≡ []
    → finished x ≡ y
last_made true x y made none = made header_token
last_made false x y made none = ap finished (made header_token) ∙ ap (λ begun. make_begun header_token begun y) none

pub near_end : (n : ℕ) (x y : Finding) → Near n x y → y.begun ≡ [] → findings x ≡ findings_of y
near_end n x y near none = ap findings_of (last_made (nat_lt (length x.nodes) n) x y near.made none)

-- the same from an equal place, with equal owners

pub leads_same : (E : Entries) (y : Finding) (p q : ℕ) (O W : List OwnerNode) (rest : List Piece) (A : Findings) → p ≡ q → W ≡ O
    → Leads E (record y { place = p; owners = O }) rest A → Leads E (record y { place = q; owners = W }) rest A
leads_same E y p q O W rest A e f k =
    subst (λ place. Leads E (record y { place = place; owners = W }) rest A) e
    (subst (λ owners. Leads E (record y { place = p; owners = owners }) rest A) (sym f) k)

pub goes_same : (E : Entries) (y : Finding) (p q : ℕ) (O W : List OwnerNode) (rest : List Piece) (A : Findings) → p ≡ q → W ≡ O
    → Goes E (record y { place = p; owners = O }) rest A → Goes E (record y { place = q; owners = W }) rest A
goes_same E y p q O W rest A e f k =
    subst (λ place. Goes E (record y { place = place; owners = W }) rest A) e
    (subst (λ owners. Goes E (record y { place = p; owners = owners }) rest A) (sym f) k)

-- from where a node stands for each handle

pub goes : (E : Entries) (i : Bool) (y : Finding) (rest : List Piece) (A : Findings) → Leads E y rest A → Goes E (named i y) rest A
goes E i y rest A k e = k i (named i y) (near_self (named i y) (length E) e)

-- a closed descriptor adds no handle
pub goes_closed : (E : Entries) (number : ℕ) (chain : List Layer) (y : Finding) (rest : List Piece) (A : Findings) → Goes (close E number chain) y rest A → Goes E y rest A
goes_closed E number chain y rest A k e = k (e ∙ sym (length-close E number chain))

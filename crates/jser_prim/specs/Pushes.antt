-- Pushing many bytes of a text, one by one, said of a scan before and after: how `push_all` does its work in parts.
use Rattle.std.specs.Prelude.{◌≡◌, ◌<◌, ◌≤◌, ◌+◌, ℕ, true, List, ◌++◌, length, take}
use Rattle.jser_prim.specs.Texts.{FaultsAfter, HasAccepted, HasAcceptedAfter, Scan}

-- pushing these bytes one by one: the first `accepted` of them are, and the next, if there is one, is not
pub record Pushes (old : Scan) (bytes : List ℕ) (accepted : ℕ) (new : Scan) : Type 0 where
  pub within : accepted ≤ length bytes
  pub all : accepted ≡ length bytes → (len : ℕ) (before units : List ℕ) → HasAccepted len before units old → HasAcceptedAfter len (before ++ bytes) units new
  pub fault : accepted < length bytes → (len : ℕ) (before units : List ℕ) → HasAccepted len before units old → FaultsAfter len before bytes accepted
  pub failed : accepted < length bytes → new.has_failed ≡ true
  pub left : new.left + accepted ≡ old.left
  pub stays : old.has_failed ≡ true → new ≡ old
  pub refuses : old.has_failed ≡ true → accepted ≡ 0

-- the first of these bytes were pushed, and accepted
pub record PushesFront (old : Scan) (bytes : List ℕ) (accepted : ℕ) (new : Scan) : Type 0 where
  pub within : accepted ≤ length bytes
  pub pushes : Pushes old (take accepted bytes) accepted new

-- these bytes were pushed up to a fault
pub record PushesTo (old : Scan) (bytes : List ℕ) (accepted : ℕ) (new : Scan) : Type 0 where
  pub within : accepted < length bytes
  pub pushes : Pushes old bytes accepted new

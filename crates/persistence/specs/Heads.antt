-- The heads of a response: interim ones, and the final one (RFC 9112, sections 2.1 and 4; RFC 9110,
-- section 15.2). What a head is, the grammar of `httparse` says.
use Rattle.std.specs.Prelude.{◌≡◌, ℕ, ◌≤◌, Bool, true, false, ◌&&◌, not, ◌==◌, nat_le, List, length}
use Rattle.httparse.specs.Grammar.{ResponseHead, ReadsResponse, print_response, status_code}
use Rattle.persistence.specs.Limits.{most_head_bytes, most_interims, most_fields}
use Rattle.persistence.specs.Sequence.{ReadsEach}

-- the text is a head within the limits, and then the rest
pub record ReadsHead (head : ResponseHead) (text rest : List ℕ) : Type 0 where
  pub reads : ReadsResponse text head rest
  pub few : length head.fields ≤ most_fields
  pub short : length (print_response head) ≤ most_head_bytes

-- interim: of a status from 100 to 199, but not 101 (RFC 9110, section 15.2; after 101 the connection
-- speaks another protocol, RFC 9110, section 7.8)
abbrev pub is_interim_status : ℕ → Bool
is_interim_status status = nat_le 100 status && nat_le status 199 && not (status == 101)

abbrev pub is_interim : ResponseHead → Bool
is_interim head = is_interim_status (status_code head)

-- the text is an interim head, and then the rest
pub record ReadsInterim (head : ResponseHead) (text rest : List ℕ) : Type 0 where
  pub reads : ReadsHead head text rest
  pub interim : is_interim head ≡ true

-- the text is a final head, and then the rest
pub record ReadsFinal (head : ResponseHead) (text rest : List ℕ) : Type 0 where
  pub reads : ReadsHead head text rest
  pub final : is_interim head ≡ false

-- the bytes are these interim heads, few enough that one more head may follow, and then the text
pub record ReadsInterims (interims : List ResponseHead) (bytes text : List ℕ) : Type 0 where
  pub few : length interims ≤ most_interims
  pub each : ReadsEach ReadsInterim interims bytes text

-- the bytes are interim heads, the final head, and then the text
pub record ReadsHeads (interims : List ResponseHead) (head : ResponseHead) (bytes text : List ℕ) : Type 0 where
  pub middle : List ℕ
  pub before : ReadsInterims interims bytes middle
  pub reads : ReadsFinal head middle text

-- the bytes have that final head, and the text follows it
abbrev pub HasFinalHead : List ℕ → ResponseHead → List ℕ → Type 0
HasFinalHead bytes head text = (interims : List ResponseHead) × ReadsHeads interims head bytes text

-- What the bytes of a response tell: its status, the length of its body, and the facts that decide
-- whether its connection persists (RFC 9112, sections 6.3, 9.3 and 9.6).
use Rattle.std.specs.Prelude.{◌≡◌, ℕ, ◌+◌, ◌≤◌, min, Bool, true, false, ◌==◌, nat_lt, if◌then◌else◌, List, length, sum, Option, Some, None, unwrap_or, codes}
use Rattle.httparse.specs.Grammar.{ResponseHead, status_code}
use Rattle.persistence.specs.declared.facts.Facts.{Facts}
use Rattle.persistence.specs.declared.facts.Framing.TheVariants.{Faulty}
use Rattle.persistence.specs.declared.body.kind.BodyKind.{BodyKind}
use Rattle.persistence.specs.declared.body.kind.BodyKind.TheVariants.{NoBody, Counted, Chunked, UntilClose}
use Rattle.persistence.specs.declared.facts.Version.{Version}
use Rattle.persistence.specs.declared.facts.Version.TheVariants.{V10, V11}
use Rattle.persistence.specs.declared.method.Method.{Method}
use Rattle.persistence.specs.Heads.{HasFinalHead}
use Rattle.persistence.specs.Fields.{fields_of, has_option, has_both_lengths, counted_length}
use Rattle.persistence.specs.Limits.{most_bytes}
use Rattle.persistence.specs.Framing.{body_kind, framing_of}
use Rattle.persistence.specs.Chunks.{ReadsSizeLine, ReadsChunk, ReadsChunks, room_after}
use Rattle.persistence.specs.Split.{Parts, IsSplit}

-- the version of a head
abbrev pub version_of : ResponseHead → Version
version_of head = if head.minor == 0 then V10 else V11

-- the facts of a response with that final head
abbrev pub facts_of_head : Method → Bool → ResponseHead → Bool → Bool → Facts
facts_of_head method request_close head whole surplus = record {
  version = version_of head;
  close = has_option (codes "close") (fields_of head);
  keep_alive = has_option (codes "keep-alive") (fields_of head);
  request_close = request_close;
  framing = framing_of method head;
  both_lengths = has_both_lengths (fields_of head);
  upgraded = status_code head == 101;
  whole = whole;
  surplus = surplus;
}

-- the facts before a final head was read
abbrev pub facts_before : Bool → Facts
facts_before request_close = record {
  version = V10;
  close = false;
  keep_alive = false;
  request_close = request_close;
  framing = Faulty;
  both_lengths = false;
  upgraded = false;
  whole = false;
  surplus = false;
}

-- the bytes have no final head yet
abbrev pub HasNoFinalHead : List ℕ → Type 0
HasNoFinalHead bytes = (head : ResponseHead) (text : List ℕ) → ¬ (HasFinalHead bytes head text)

-- the response is not whole
abbrev pub IsNotWhole : Method → List ℕ → Bool → Type 0
IsNotWhole method bytes ended = (parts : Parts) → ¬ (IsSplit method bytes ended parts)

-- there are bytes
abbrev pub is_some_text : List ℕ → Bool
is_some_text bytes = nat_lt 0 (length bytes)

-- the facts that the bytes tell: before a final head; after it, while the response is not whole; and
-- where it is whole
pub record TellsFacts (method : Method) (request_close : Bool) (bytes : List ℕ) (ended : Bool) (facts : Facts) : Type 0 where
  pub before : HasNoFinalHead bytes → facts ≡ facts_before request_close
  pub after : (head : ResponseHead) (text : List ℕ) → HasFinalHead bytes head text
      → IsNotWhole method bytes ended → facts ≡ facts_of_head method request_close head false false
  pub whole : (parts : Parts) → IsSplit method bytes ended parts
      → facts ≡ facts_of_head method request_close parts.head true (is_some_text parts.rest)

-- the facts after a fault: no framing can be relied on, and the response is never whole
abbrev pub facts_after_fault : Facts → Facts
facts_after_fault facts = record facts { framing = Faulty; whole = false }

-- the facts that faulty bytes tell: those of the final head, where there is one
pub record TellsFactsAfterFault (method : Method) (request_close : Bool) (bytes : List ℕ) (facts : Facts) : Type 0 where
  pub before : HasNoFinalHead bytes → facts ≡ facts_before request_close
  pub after : (head : ResponseHead) (text : List ℕ) → HasFinalHead bytes head text
      → facts ≡ facts_after_fault (facts_of_head method request_close head false false)

-- the status that the bytes tell: that of the final head
pub record TellsStatus (bytes : List ℕ) (status : Option ℕ) : Type 0 where
  pub before : HasNoFinalHead bytes → status ≡ None
  pub after : (head : ResponseHead) (text : List ℕ) → HasFinalHead bytes head text → status ≡ Some (status_code head)

-- no whole chunk whose size fits the room begins the text
abbrev pub HasNoChunk : ℕ → List ℕ → Type 0
HasNoChunk room text = (size : ℕ) (rest : List ℕ) → size ≤ room → ¬ (ReadsChunk size text rest)

-- the data that has come of a chunk that is not whole: what follows a line whose size fits the room, at
-- most that size
pub record TellsBegun (room : ℕ) (text : List ℕ) (len : ℕ) : Type 0 where
  pub before : ((size : ℕ) (rest : List ℕ) → size ≤ room → ¬ (ReadsSizeLine size text rest)) → len ≡ 0
  pub after : (size : ℕ) (rest : List ℕ) → size ≤ room → ReadsSizeLine size text rest → len ≡ min size (length rest)

-- the data in the chunks so far, the last of which may not be whole
abbrev pub TellsChunkData : List ℕ → ℕ → Type 0
TellsChunkData text len = (sizes : List ℕ) (rest : List ℕ) → ReadsChunks sizes text rest → HasNoChunk (room_after sizes) rest
    → (begun : ℕ) × TellsBegun (room_after sizes) rest begun × (len ≡ sum sizes + begun)

-- the bytes of a body of that kind that stand in the text after the head, no more than can be counted
abbrev pub TellsBodyLength : BodyKind → Option ℕ → List ℕ → ℕ → Type 0
TellsBodyLength NoBody counted text len = len ≡ 0
TellsBodyLength Counted counted text len = len ≡ min (unwrap_or counted 0) (length text)
TellsBodyLength Chunked counted text len = TellsChunkData text len
TellsBodyLength UntilClose counted text len = len ≡ min most_bytes (length text)

-- the number of body bytes that the bytes tell
pub record TellsLength (method : Method) (bytes : List ℕ) (len : ℕ) : Type 0 where
  pub before : HasNoFinalHead bytes → len ≡ 0
  pub after : (head : ResponseHead) (text : List ℕ) → HasFinalHead bytes head text
      → TellsBodyLength (body_kind method head) (counted_length (fields_of head)) text len

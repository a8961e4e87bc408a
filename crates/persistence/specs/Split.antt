-- A response, told apart: interim heads, the final head, the body and what follows (RFC 9112, sections
-- 2.1 and 6.3).
use Rattle.std.specs.Prelude.{◌≡◌, ℕ, ◌≤◌, Bool, true, List, [], ◌++◌, length, Option, Some}
use Rattle.httparse.specs.Grammar.{ResponseHead}
use Rattle.persistence.specs.declared.body.kind.BodyKind.{BodyKind}
use Rattle.persistence.specs.declared.body.kind.BodyKind.TheVariants.{NoBody, Counted, Chunked, UntilClose}
use Rattle.persistence.specs.declared.method.Method.{Method}
use Rattle.persistence.specs.Heads.{ReadsHeads}
use Rattle.persistence.specs.Fields.{fields_of, counted_length}
use Rattle.persistence.specs.Limits.{most_bytes}
use Rattle.persistence.specs.Framing.{body_kind}
use Rattle.persistence.specs.Chunks.{ReadsChunked}

-- a body of that kind, where its Content-Length gives that number, ends where the rest begins
abbrev pub EndsBody : BodyKind → Option ℕ → Bool → List ℕ → List ℕ → Type 0
EndsBody NoBody counted ended body rest = body ≡ []
EndsBody Counted counted ended body rest = counted ≡ Some (length body)
EndsBody Chunked counted ended body rest = (sizes : List ℕ) × ReadsChunked sizes (body ++ rest) rest
EndsBody UntilClose counted ended body rest = (ended ≡ true) × (rest ≡ []) × (length body ≤ most_bytes)

-- the parts of a response, and the bytes that follow it
pub record Parts : Type 0 where
  pub interims : List ResponseHead
  pub head : ResponseHead
  pub body : List ℕ
  pub rest : List ℕ

-- the bytes, of which more may come unless the connection has ended, are these parts one after another
pub record IsSplit (method : Method) (bytes : List ℕ) (ended : Bool) (parts : Parts) : Type 0 where
  pub heads : ReadsHeads parts.interims parts.head bytes (parts.body ++ parts.rest)
  pub body : EndsBody (body_kind method parts.head) (counted_length (fields_of parts.head)) ended parts.body parts.rest

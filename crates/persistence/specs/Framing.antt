-- How the end of a response's body is found (RFC 9112, section 6.3).
use Rattle.std.specs.Prelude.{ℕ, Bool, true, false, ◌&&◌, ◌||◌, ◌==◌, if◌then◌else◌}
use Rattle.httparse.specs.Grammar.{ResponseHead, status_code}
use Rattle.persistence.specs.declared.facts.Framing.{Framing}
use Rattle.persistence.specs.declared.facts.Framing.TheVariants as framing
use Rattle.persistence.specs.declared.body.kind.BodyKind.{BodyKind}
use Rattle.persistence.specs.declared.body.kind.BodyKind.TheVariants.{NoBody, Counted, Chunked, UntilClose}
use Rattle.persistence.specs.declared.method.Method.{Method}
use Rattle.persistence.specs.declared.method.Method.TheVariants.{Get, Head}
use Rattle.persistence.specs.Fields.{fields_of, has_transfer_encoding, is_chunked_last, has_content_length}

-- the request's method was HEAD
abbrev pub is_head : Method → Bool
is_head Get = false
is_head Head = true

-- the response has no body (RFC 9112, section 6.3, item 1; 101 has none, since the connection then
-- speaks another protocol)
abbrev pub is_bodiless : Method → ℕ → Bool
is_bodiless method status = is_head method || status == 101 || status == 204 || status == 304

-- how the body is read: the first case that applies (RFC 9112, section 6.3, items 1, 4, 5, 6 and 8)
abbrev pub body_kind : Method → ResponseHead → BodyKind
body_kind method head =
    if is_bodiless method (status_code head) then NoBody
    else if has_transfer_encoding (fields_of head) then (if is_chunked_last (fields_of head) then Chunked else UntilClose)
    else if has_content_length (fields_of head) then Counted
    else UntilClose

-- the framing of a body that is read so
abbrev pub framing_by : BodyKind → Framing
framing_by NoBody = framing.NoBody
framing_by Counted = framing.Counted
framing_by Chunked = framing.Chunked
framing_by UntilClose = framing.UntilClose

-- the framing: that of the body, but no framing of HTTP/1.0 with a Transfer-Encoding field can be relied
-- on (RFC 9112, section 6.1)
abbrev pub framing_of : Method → ResponseHead → Framing
framing_of method head =
    if head.minor == 0 && has_transfer_encoding (fields_of head) then framing.Faulty
    else framing_by (body_kind method head)

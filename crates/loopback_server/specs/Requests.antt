-- What the bytes that a peer sends begin with, and whether a request closes its connection.
use Rattle.std.specs.Prelude.{◌≡◌, ℕ, ◌≤◌, Bool, ◌&&◌, ◌==◌, List, length, map, drop, codes}
use Rattle.std.specs.List.{list_any, slice_split}
use Rattle.std.specs.Str.{str_eq_ignore_ascii_case}
use Rattle.httparse.specs.Grammar.{RequestHead, ReadsRequest, HasNoRequest, MayBecomeRequest, trim_ows}
use Rattle.httparse.specs.Spans.{RequestOverflows, name_and_value, header_bytes}
use Rattle.httparse.specs.declared.spans.HeaderSpan.{HeaderSpan}
use Rattle.loopback_server.specs.declared.request.Front.{Front}
use Rattle.loopback_server.specs.declared.request.Front.TheVariants.{Request, Part, Other}

abbrev pub is_comma : ℕ → Bool
is_comma byte = byte == 44

-- the element of a list is close, without case and without the spaces and tabs around it
abbrev pub is_close : List ℕ → Bool
is_close element = str_eq_ignore_ascii_case (trim_ows element) (codes "close")

-- an element of the list, between its commas, is close (RFC 9110, section 5.6.1)
abbrev pub lists_close : List ℕ → Bool
lists_close value = list_any is_close (slice_split is_comma value)

-- the field of that name and value has the connection option close (RFC 9110, section 7.6.1)
abbrev pub has_close : List ℕ × List ℕ → Bool
has_close field = str_eq_ignore_ascii_case field.0 (codes "connection") && lists_close field.1

-- the field at these places of the bytes has it
abbrev pub has_close_at : List ℕ → HeaderSpan → Bool
has_close_at bytes span = has_close (header_bytes bytes span)

-- a field of the head has it, so that the connection ends with this request (RFC 9112, section 9.6)
abbrev pub asks_to_close : RequestHead → Bool
asks_to_close head = list_any has_close (map name_and_value head.fields)

-- a request's head stands at the front of the bytes, and asks to close or doesn't
pub record IsRequest (bytes : List ℕ) (len : ℕ) (is_last : Bool) : Type 0 where
  pub within : len ≤ length bytes
  pub head : RequestHead
  pub reads : ReadsRequest bytes head (drop len bytes)
  pub closes : is_last ≡ asks_to_close head

-- the bytes begin with a request of that length; or with what may become one; or with what is none of at most so
-- many fields, whatever follows
abbrev pub BeginsWith : List ℕ → ℕ → Front → Type 0
BeginsWith bytes room (Request len is_last) = IsRequest bytes len is_last
BeginsWith bytes room Part = HasNoRequest bytes × MayBecomeRequest bytes
BeginsWith bytes room Other = RequestOverflows room bytes

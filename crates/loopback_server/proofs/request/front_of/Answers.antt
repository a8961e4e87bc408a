use Rattle.std.proofs.Common.{take, ap, sym, ◌∙◌, rules}
use Rattle.std.specs.List.{list_any}
use Rattle.httparse.specs.Spans.{header_bytes, IsRequestOf, IsRequestWithin}
use Rattle.loopback_server.specs.Requests.{has_close}
use Rattle.loopback_server.proofs.Fields.{list_any-map}
use Rattle.loopback_server.proofs.request.front_of.Goals as goal

pub returns-in-Ok-Complete : goal.returns-in-Ok-Complete
returns-in-Ok-Complete c =
    let it : IsRequestOf c.args.bytes.now c.parse_request.new.headers c.in-Ok-Complete.head = search rules in
    let inside : IsRequestWithin c.args.bytes.now c.parse_request.new.headers c.in-Ok-Complete.head = search rules in
    let spans = take c.in-Ok-Complete.head.headers c.parse_request.new.headers in
    record {
      within = inside.section.len_fits;
      head = it.0;
      reads = it.1.reads;
      closes =
          c.have_close.ensures
          ∙ sym (list_any-map has_close (header_bytes c.args.bytes.now) spans)
          ∙ ap (list_any has_close) it.1.fields;
    }

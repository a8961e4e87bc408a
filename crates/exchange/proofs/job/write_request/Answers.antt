-- The text that is written, part by part, is that of the request.
use Rattle.std.proofs.Common.{string_bytes}
use Rattle.exchange.proofs.RequestText.{written_without_port, written_with_port}
use Rattle.exchange.proofs.job.write_request.Goals as goal

pub returns-then-port-eq80 : goal.returns-then-port-eq80
returns-then-port-eq80 c = written_without_port c.write.result (string_bytes c.args.text.now) (string_bytes c.write.new.self) c.args.job.now.method _ _ c.args.job.now.target.port c.args.job.now.want.forbid_reuse _ _ _ _ c.requires c.method_word-word.ensures c.as_str-path.ensures.value c.as_str-host.ensures.value c.close_line-option.ensures c.if-port-eq80.true c.write.ensures.bytes

pub returns-else-port-eq80 : goal.returns-else-port-eq80
returns-else-port-eq80 c = written_with_port c.write-else-port-eq80.result (string_bytes c.args.text.now) (string_bytes c.write-else-port-eq80.new.self) c.args.job.now.method _ _ c.args.job.now.target.port c.args.job.now.want.forbid_reuse _ _ _ _ c.requires c.method_word-word.ensures c.as_str-path.ensures.value c.as_str-host.ensures.value c.close_line-option.ensures c.if-port-eq80.false c.write-else-port-eq80.ensures.bytes

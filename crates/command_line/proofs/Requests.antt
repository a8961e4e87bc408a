-- Requests that read no file.
use Rattle.std.proofs.Common.{◌≡◌, ◌∙◌, ℕ, None, ap, refl}
use Rattle.clap.specs.Words.{Kinds}
use Rattle.command_line.specs.CommandLine.{Asks, PlansAudit, PlansGet, PlansScript, Said, audit, file_said, get, load, nothing, request_file, script}
use Rattle.command_line.specs.GetPlans.{plan_file}
use Rattle.command_line.specs.Inputs.{asked_file, name_of}
use Rattle.command_line.specs.declared.audit_words.AuditWords.{AuditWords}
use Rattle.commands.specs.declared.crawl_plan.CrawlPlan.{CrawlPlan}
use Rattle.command_line.specs.declared.script_words.ScriptWords.{ScriptWords}
use Rattle.command_line.specs.declared.request.Request.{Request}
use Rattle.command_line.specs.declared.request.Request.TheVariants as requests

-- words that say no file make a request that asks for none
script-reads : (said : Said) (words : ScriptWords) → PlansScript said words → file_said said ≡ None → name_of words.input ≡ None
script-reads (script rows) words is none = is.file ∙ none
script-reads nothing words is none = absurd is
script-reads (get rows) words is none = absurd is
script-reads (load rows) words is none = absurd is
script-reads (audit rows) words is none = absurd is

audit-reads : (said : Said) (words : AuditWords) → PlansAudit said words → file_said said ≡ None → name_of words.input ≡ None
audit-reads (audit rows) words is none = is.file ∙ none
audit-reads nothing words is none = absurd is
audit-reads (get rows) words is none = absurd is
audit-reads (load rows) words is none = absurd is
audit-reads (script rows) words is none = absurd is

plan-reads : (said : Said) (plan : CrawlPlan) → PlansGet said plan → file_said said ≡ None → plan_file plan ≡ None
plan-reads (get rows) plan is none = ap asked_file is.file_is ∙ none
plan-reads nothing plan is none = absurd is
plan-reads (script rows) plan is none = absurd is
plan-reads (load rows) plan is none = absurd is
plan-reads (audit rows) plan is none = absurd is

pub asks-no-file : (faults : Kinds) (said : Said) (before after : ℕ) (request : Request) → Asks faults said before after request → file_said said ≡ None → request_file request ≡ None
asks-no-file faults said before after (requests.Script words) asks none = script-reads said words asks.1 none
asks-no-file faults said before after (requests.Get plan) asks none = plan-reads said plan asks.1 none
asks-no-file faults said before after (requests.Load plan) asks none = refl
asks-no-file faults said before after (requests.Audit words) asks none = audit-reads said words asks.1 none
asks-no-file faults said before after (requests.Tell text) asks none = refl
asks-no-file faults said before after (requests.Refuse text) asks none = refl
asks-no-file faults said before after requests.NoMemory asks none = refl

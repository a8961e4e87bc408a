use Rattle.std.proofs.Common.{refl}
use Rattle.std.specs.Fmt.{digits}
use Rattle.std.specs.Str.{is_utf8, chars}
use lib.Utf8.{encode}
use Rattle.url.proofs.OnLiterals.{url_on_literals}
use Rattle.streams.specs.Lines.{lines}
use Rattle.streams.specs.Words.{words, number}
use Rattle.script_text.specs.Grammar.{reading, command_of, ending_of, limits_form, site_form, with_number, with_word, get_form, claim_form, back_form, drop_form, leave_form, limit_form, prune_form, upkeep_form, look_form}
use Rattle.script_text.specs.Site.{site_named}
use Rattle.script_text.specs.Printing.{lines_since}
use Rattle.script_engine.specs.Meaning.{step, get_at, claim_at, back_at, drop_at, leave_at, limit_at, look_at, prune_all, upkeep_all}
use Rattle.script_engine.specs.Transcript.{transcript, line_step}
use Rattle.script_engine.proofs.worked.worked_scripts_over_hosts.Goals as goal

pub returns-clause-limits_alone : goal.returns-clause-limits_alone
unfolding url_on_literals site_named with_number with_word digits is_utf8 chars encode lines words number reading command_of ending_of limits_form site_form get_form claim_form back_form drop_form leave_form limit_form prune_form upkeep_form look_form lines_since step get_at claim_at back_at drop_at leave_at limit_at look_at prune_all upkeep_all transcript line_step
returns-clause-limits_alone c = (refl, refl)

pub returns-clause-newest_is_reused_then_upkeep : goal.returns-clause-newest_is_reused_then_upkeep
unfolding url_on_literals site_named with_number with_word digits is_utf8 chars encode lines words number reading command_of ending_of limits_form site_form get_form claim_form back_form drop_form leave_form limit_form prune_form upkeep_form look_form lines_since step get_at claim_at back_at drop_at leave_at limit_at look_at prune_all upkeep_all transcript line_step
returns-clause-newest_is_reused_then_upkeep c = (refl, refl)

pub returns-clause-prune_and_upkeep : goal.returns-clause-prune_and_upkeep
unfolding url_on_literals site_named with_number with_word digits is_utf8 chars encode lines words number reading command_of ending_of limits_form site_form get_form claim_form back_form drop_form leave_form limit_form prune_form upkeep_form look_form lines_since step get_at claim_at back_at drop_at leave_at limit_at look_at prune_all upkeep_all transcript line_step
returns-clause-prune_and_upkeep c = (refl, refl)

pub returns-clause-prune_over_hosts : goal.returns-clause-prune_over_hosts
unfolding url_on_literals site_named with_number with_word digits is_utf8 chars encode lines words number reading command_of ending_of limits_form site_form get_form claim_form back_form drop_form leave_form limit_form prune_form upkeep_form look_form lines_since step get_at claim_at back_at drop_at leave_at limit_at look_at prune_all upkeep_all transcript line_step
returns-clause-prune_over_hosts c = (refl, refl)

pub returns-clause-full_cache_closes_the_oldest : goal.returns-clause-full_cache_closes_the_oldest
unfolding url_on_literals site_named with_number with_word digits is_utf8 chars encode lines words number reading command_of ending_of limits_form site_form get_form claim_form back_form drop_form leave_form limit_form prune_form upkeep_form look_form lines_since step get_at claim_at back_at drop_at leave_at limit_at look_at prune_all upkeep_all transcript line_step
returns-clause-full_cache_closes_the_oldest c = (refl, refl)

pub returns-clause-total_room_from_another_host : goal.returns-clause-total_room_from_another_host
unfolding url_on_literals site_named with_number with_word digits is_utf8 chars encode lines words number reading command_of ending_of limits_form site_form get_form claim_form back_form drop_form leave_form limit_form prune_form upkeep_form look_form lines_since step get_at claim_at back_at drop_at leave_at limit_at look_at prune_all upkeep_all transcript line_step
returns-clause-total_room_from_another_host c = (refl, refl)

pub returns-clause-total_room_on_a_tie : goal.returns-clause-total_room_on_a_tie
unfolding url_on_literals site_named with_number with_word digits is_utf8 chars encode lines words number reading command_of ending_of limits_form site_form get_form claim_form back_form drop_form leave_form limit_form prune_form upkeep_form look_form lines_since step get_at claim_at back_at drop_at leave_at limit_at look_at prune_all upkeep_all transcript line_step
returns-clause-total_room_on_a_tie c = (refl, refl)

pub returns-clause-host_waits_for_the_total : goal.returns-clause-host_waits_for_the_total
unfolding url_on_literals site_named with_number with_word digits is_utf8 chars encode lines words number reading command_of ending_of limits_form site_form get_form claim_form back_form drop_form leave_form limit_form prune_form upkeep_form look_form lines_since step get_at claim_at back_at drop_at leave_at limit_at look_at prune_all upkeep_all transcript line_step
returns-clause-host_waits_for_the_total c = (refl, refl)

pub returns-clause-hosts_take_turns : goal.returns-clause-hosts_take_turns
unfolding url_on_literals site_named with_number with_word digits is_utf8 chars encode lines words number reading command_of ending_of limits_form site_form get_form claim_form back_form drop_form leave_form limit_form prune_form upkeep_form look_form lines_since step get_at claim_at back_at drop_at leave_at limit_at look_at prune_all upkeep_all transcript line_step
returns-clause-hosts_take_turns c = (refl, refl)

pub returns-clause-lower_the_host_limit : goal.returns-clause-lower_the_host_limit
unfolding url_on_literals site_named with_number with_word digits is_utf8 chars encode lines words number reading command_of ending_of limits_form site_form get_form claim_form back_form drop_form leave_form limit_form prune_form upkeep_form look_form lines_since step get_at claim_at back_at drop_at leave_at limit_at look_at prune_all upkeep_all transcript line_step
returns-clause-lower_the_host_limit c = (refl, refl)

pub returns-clause-raise_the_host_limit : goal.returns-clause-raise_the_host_limit
unfolding url_on_literals site_named with_number with_word digits is_utf8 chars encode lines words number reading command_of ending_of limits_form site_form get_form claim_form back_form drop_form leave_form limit_form prune_form upkeep_form look_form lines_since step get_at claim_at back_at drop_at leave_at limit_at look_at prune_all upkeep_all transcript line_step
returns-clause-raise_the_host_limit c = (refl, refl)

pub returns-clause-raise_and_wait_for_the_total : goal.returns-clause-raise_and_wait_for_the_total
unfolding url_on_literals site_named with_number with_word digits is_utf8 chars encode lines words number reading command_of ending_of limits_form site_form get_form claim_form back_form drop_form leave_form limit_form prune_form upkeep_form look_form lines_since step get_at claim_at back_at drop_at leave_at limit_at look_at prune_all upkeep_all transcript line_step
returns-clause-raise_and_wait_for_the_total c = (refl, refl)

pub returns-clause-raise_the_limit_for_two : goal.returns-clause-raise_the_limit_for_two
unfolding url_on_literals site_named with_number with_word digits is_utf8 chars encode lines words number reading command_of ending_of limits_form site_form get_form claim_form back_form drop_form leave_form limit_form prune_form upkeep_form look_form lines_since step get_at claim_at back_at drop_at leave_at limit_at look_at prune_all upkeep_all transcript line_step
returns-clause-raise_the_limit_for_two c = (refl, refl)

pub returns-clause-no_limit_on_a_host : goal.returns-clause-no_limit_on_a_host
unfolding url_on_literals site_named with_number with_word digits is_utf8 chars encode lines words number reading command_of ending_of limits_form site_form get_form claim_form back_form drop_form leave_form limit_form prune_form upkeep_form look_form lines_since step get_at claim_at back_at drop_at leave_at limit_at look_at prune_all upkeep_all transcript line_step
returns-clause-no_limit_on_a_host c = (refl, refl)

pub returns-clause-lines_naming_the_second_host : goal.returns-clause-lines_naming_the_second_host
unfolding url_on_literals site_named with_number with_word digits is_utf8 chars encode lines words number reading command_of ending_of limits_form site_form get_form claim_form back_form drop_form leave_form limit_form prune_form upkeep_form look_form lines_since step get_at claim_at back_at drop_at leave_at limit_at look_at prune_all upkeep_all transcript line_step
returns-clause-lines_naming_the_second_host c = refl

pub returns-clause-leases_at_the_second_host : goal.returns-clause-leases_at_the_second_host
unfolding url_on_literals site_named with_number with_word digits is_utf8 chars encode lines words number reading command_of ending_of limits_form site_form get_form claim_form back_form drop_form leave_form limit_form prune_form upkeep_form look_form lines_since step get_at claim_at back_at drop_at leave_at limit_at look_at prune_all upkeep_all line_step
returns-clause-leases_at_the_second_host c = refl

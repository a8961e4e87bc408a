use Rattle.std.proofs.Common.{refl}
use Rattle.streams.specs.Words.{words, number}
use Rattle.script_text.specs.Grammar.{command_of, ending_of, limits_form, site_form, with_number, with_word, get_form, claim_form, back_form, drop_form, leave_form, limit_form, prune_form, upkeep_form, look_form}
use Rattle.trace_text.specs.Lines.{trace_reading, line_named, order_form, rest_form, start_of, start_form, closed_form, wait_form, connection_of, cause_of}
use Rattle.trace_text.proofs.worked.worked_trace_lines.Goals as goal

pub returns-clause-starts : goal.returns-clause-starts
unfolding words number trace_reading line_named order_form rest_form start_of start_form closed_form wait_form connection_of cause_of command_of ending_of limits_form site_form with_number with_word get_form claim_form back_form drop_form leave_form limit_form prune_form upkeep_form look_form
returns-clause-starts c = (refl, refl, refl)

pub returns-clause-closes : goal.returns-clause-closes
unfolding words number trace_reading line_named order_form rest_form start_of start_form closed_form wait_form connection_of cause_of command_of ending_of limits_form site_form with_number with_word get_form claim_form back_form drop_form leave_form limit_form prune_form upkeep_form look_form
returns-clause-closes c = (refl, refl)

pub returns-clause-queue : goal.returns-clause-queue
unfolding words number trace_reading line_named order_form rest_form start_of start_form closed_form wait_form connection_of cause_of command_of ending_of limits_form site_form with_number with_word get_form claim_form back_form drop_form leave_form limit_form prune_form upkeep_form look_form
returns-clause-queue c = (refl, refl)

pub returns-clause-limit : goal.returns-clause-limit
unfolding words number trace_reading line_named order_form rest_form start_of start_form closed_form wait_form connection_of cause_of command_of ending_of limits_form site_form with_number with_word get_form claim_form back_form drop_form leave_form limit_form prune_form upkeep_form look_form
returns-clause-limit c = refl

pub returns-clause-order : goal.returns-clause-order
unfolding words number trace_reading line_named order_form rest_form start_of start_form closed_form wait_form connection_of cause_of command_of ending_of limits_form site_form with_number with_word get_form claim_form back_form drop_form leave_form limit_form prune_form upkeep_form look_form
returns-clause-order c = (refl, refl)

pub returns-clause-asked : goal.returns-clause-asked
unfolding words number trace_reading line_named order_form rest_form start_of start_form closed_form wait_form connection_of cause_of command_of ending_of limits_form site_form with_number with_word get_form claim_form back_form drop_form leave_form limit_form prune_form upkeep_form look_form
returns-clause-asked c = (refl, refl)

pub returns-clause-passed : goal.returns-clause-passed
unfolding words number trace_reading line_named order_form rest_form start_of start_form closed_form wait_form connection_of cause_of command_of ending_of limits_form site_form with_number with_word get_form claim_form back_form drop_form leave_form limit_form prune_form upkeep_form look_form
returns-clause-passed c = (refl, refl, refl, refl, refl, refl, refl)

pub returns-clause-forms : goal.returns-clause-forms
unfolding words number trace_reading line_named order_form rest_form start_of start_form closed_form wait_form connection_of cause_of command_of ending_of limits_form site_form with_number with_word get_form claim_form back_form drop_form leave_form limit_form prune_form upkeep_form look_form
returns-clause-forms c = (refl, refl, refl, refl, refl, refl, refl, refl, refl, refl)

pub returns-clause-others : goal.returns-clause-others
unfolding words number trace_reading line_named order_form rest_form start_of start_form closed_form wait_form connection_of cause_of command_of ending_of limits_form site_form with_number with_word get_form claim_form back_form drop_form leave_form limit_form prune_form upkeep_form look_form
returns-clause-others c = (refl, refl, refl)

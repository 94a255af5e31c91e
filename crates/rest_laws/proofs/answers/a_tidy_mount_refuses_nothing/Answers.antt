use Rattle.rest_laws.proofs.RestingThen.{due_over, left_before, no_worn_flush, no_worn_write, positions_before}
use Rattle.rest_laws.proofs.answers.a_tidy_mount_refuses_nothing.Goals as goal

pub returns : goal.returns
returns c = record { flush = no_worn_flush; write = no_worn_write; due = due_over; numbers = left_before; positions = positions_before }

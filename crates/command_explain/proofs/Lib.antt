mod Named
mod RunNamed
